-- A picture, as it is printed.
use Rattle.std.specs.Prelude.{ℕ, ◌-◌, ◌*◌, ◌/◌, ◌^◌, ◌==◌, List, [], ◌∷◌, ◌++◌, codes, if◌then◌else◌, max, min, string_bytes}
use Rattle.std.specs.List.{flat_map}
use Rattle.svg.specs.Elements.{close_text, line_text, open_text, path_end_text, path_text, rect_text, shifted_end_text, shifted_text, title_text, told_rect_text, turn_text, words_text}
use Rattle.picture.specs.Axis.{place_at}
use Rattle.picture.specs.Looks.{class_of}
use Rattle.picture.specs.declared.marks.Band.{Band}
use Rattle.picture.specs.declared.marks.Bar.{Bar}
use Rattle.picture.specs.declared.marks.Curve.{Curve}
use Rattle.picture.specs.declared.marks.LoadCurve.{LoadCurve}
use Rattle.picture.specs.declared.marks.Mark.{Mark}
use Rattle.picture.specs.declared.marks.Mark.TheVariants.{Line, Rect, Words}
use Rattle.picture.specs.declared.marks.Picture.{Picture}
use Rattle.picture.specs.declared.marks.Step.{Step}
use Rattle.picture.specs.declared.style.TheConstants.{STYLES}

-- ---- bars: a pixel shorter than the time that they take, and a twin, with its edge, the same

unfoldable pub bar_text : Bar → List ℕ
bar_text bar =
    told_rect_text (class_of bar.style) (record { x = bar.left; y = bar.top; width = max (bar.right - bar.left - 1) 3; height = 16 }) (string_bytes bar.tip)

unfoldable pub twin_text : Bar → List ℕ
twin_text bar =
    told_rect_text (class_of bar.style) (record { x = bar.left; y = bar.top; width = max (bar.right - bar.left - 2) 2; height = 14 }) (string_bytes bar.tip)

-- ---- curves

-- how high an amount is, where the most fills the curve; what is greater than any amount counts as 2^64 - 1 parts of that
abbrev pub rise : Curve → ℕ → ℕ
rise curve amount = min (amount * curve.tall) (2 ^ 64 - 1) / max curve.most 1

-- where an amount is drawn
abbrev pub height_at : Curve → ℕ → ℕ
height_at curve amount = curve.base - rise curve amount

-- a step, where it changes the height
abbrev pub step_text : ℕ → Curve → ℕ → Step → List ℕ
step_text span curve y step =
    let height = height_at curve step.amount in if height == y then [] else turn_text (place_at span (min step.at span)) height

-- all steps, from a height on
abbrev pub steps_text : ℕ → Curve → ℕ → List Step → List ℕ
steps_text span curve y [] = []
steps_text span curve y (step ∷ steps) = step_text span curve y step ++ steps_text span curve (height_at curve step.amount) steps

-- from the base up, and at the end of the axis down to it
unfoldable pub curve_text : ℕ → Curve → List ℕ
curve_text span curve =
    path_text (codes "load") 118 curve.base ++ steps_text span curve curve.base curve.steps.items ++ turn_text 908 curve.base ++ path_end_text

abbrev pub load_text : ℕ → LoadCurve → List ℕ
load_text span load = curve_text span load.curve

-- ---- bands and other marks

unfoldable pub band_text : ℕ → Band → List ℕ
band_text span band =
    shifted_text (codes "twins") ++ flat_map twin_text band.twins.items ++ shifted_end_text ++ flat_map bar_text band.bars.items
    ++ flat_map (load_text span) band.curves.items

abbrev pub mark_text : Mark → List ℕ
mark_text (Rect style x y width height) = rect_text (class_of style) (record { x = x; y = y; width = width; height = height })
mark_text (Line style x y right low) = line_text (class_of style) x y right low
mark_text (Words style x y words) = words_text (class_of style) x y (string_bytes words)

-- ---- the whole

-- how the classes look
unfoldable pub styles_text : List ℕ
styles_text = STYLES.now

-- the size, the title, how the classes look, and a white ground
unfoldable pub head_text : List ℕ → ℕ → List ℕ
head_text title tall = open_text 1000 tall ++ title_text title ++ styles_text ++ rect_text (codes "page") (record { x = 0; y = 0; width = 1000; height = tall })

unfoldable pub picture_text : Picture → List ℕ
picture_text picture =
    head_text (string_bytes picture.title) picture.tall ++ flat_map mark_text picture.under.items ++ flat_map (band_text picture.span) picture.bands.items
    ++ flat_map bar_text picture.loose.items ++ flat_map mark_text picture.over.items ++ close_text
