-- A heat map, as it is printed.
use Rattle.std.specs.Prelude.{ℕ, ◌-◌, Bool, nat_le, List, [], ◌∷◌, ◌++◌, if◌then◌else◌, max, min, string_bytes}
use Rattle.std.specs.List.{flat_map}
use Rattle.svg.specs.Elements.{close_text, rect_text, told_rect_text}
use Rattle.picture.specs.Axis.{place_at}
use Rattle.picture.specs.Looks.{class_of}
use Rattle.picture.specs.Shades.{class_of_shade, is_same_shade, shade_of}
use Rattle.picture.specs.Text.{curve_text, head_text, mark_text}
use Rattle.picture.specs.declared.marks.Bar.{Bar}
use Rattle.picture.specs.declared.marks.Heat.{Heat}
use Rattle.picture.specs.declared.marks.HeatMap.{HeatMap}
use Rattle.picture.specs.declared.marks.HeatRow.{HeatRow}
use Rattle.picture.specs.declared.shade.Shade.{Shade}
use Rattle.picture.specs.declared.shade.Shade.TheVariants.{Faint}
use Rattle.picture.specs.declared.shade.TheConstants.{HEAT_STYLES}

-- the line of an action, over the time that it takes
unfoldable pub action_line_text : Bar → List ℕ
action_line_text bar =
    told_rect_text (class_of bar.style) (record { x = bar.left; y = bar.top; width = max (bar.right - bar.left) 2; height = 3 }) (string_bytes bar.tip)

-- ---- heat

-- a shade from one place to another, where that is any way off
unfoldable pub shade_text : HeatRow → Shade → ℕ → ℕ → List ℕ
shade_text row shade x right =
    if nat_le right x then [] else rect_text (class_of_shade shade) (record { x = x; y = row.top; width = right - x; height = row.tall })

-- a shade that began at a place ends where a step has another one
abbrev pub change_text : ℕ → HeatRow → Shade → ℕ → Heat → List ℕ
change_text span row shade x heat =
    if is_same_shade shade (shade_of heat) then [] else shade_text row shade x (place_at span (min heat.at span))

-- where the shade began that holds after a step
abbrev pub begun_at : ℕ → Shade → ℕ → Heat → ℕ
begun_at span shade x heat = if is_same_shade shade (shade_of heat) then x else place_at span (min heat.at span)

-- all steps, the last shade up to the end of the axis
abbrev pub shades_text : ℕ → HeatRow → Shade → ℕ → List Heat → List ℕ
shades_text span row shade x [] = shade_text row shade x 908
shades_text span row shade x (heat ∷ heats) =
    change_text span row shade x heat ++ shades_text span row (shade_of heat) (begun_at span shade x heat) heats

-- ---- rows and the whole

unfoldable pub row_text : ℕ → HeatRow → List ℕ
row_text span row =
    shades_text span row Faint 118 row.heats.items ++ flat_map action_line_text row.bars.items ++ flat_map action_line_text row.twins.items

-- how the shades look
unfoldable pub heat_styles_text : List ℕ
heat_styles_text = HEAT_STYLES.now

unfoldable pub heat_map_text : HeatMap → List ℕ
heat_map_text heat_map =
    head_text (string_bytes heat_map.title) heat_map.tall ++ heat_styles_text ++ flat_map mark_text heat_map.under.items ++ curve_text heat_map.span heat_map.acting
    ++ curve_text heat_map.span heat_map.powered ++ flat_map (row_text heat_map.span) heat_map.rows.items
    ++ flat_map action_line_text heat_map.loose.items ++ flat_map mark_text heat_map.over.items ++ close_text
