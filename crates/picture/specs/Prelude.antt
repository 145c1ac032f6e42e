-- What is cited together of this crate and of those below it, passed on from one place. Declares nothing.
pub use Rattle.show.specs.Prelude.{Choices, choices_of, element_count, InRange, Instance, inventory_of, IsActionOf, IsElement, IsListing, IsPlanOf}
pub use Rattle.judge.specs.Prelude.{cell, loads_of, snapshot_at}
unfoldable pub use Rattle.judge.specs.Prelude.{capacity_of}
pub use Rattle.slices.specs.Prelude.{max_nodes}
pub use Rattle.slices.specs.Snapshots.{powered_nodes}
unfoldable pub use Rattle.replay.specs.Events.{events}
pub use Rattle.picture.specs.Axis.{place_at, span_of}
pub use Rattle.picture.specs.Bars.{acting_node, action_of_bar, AreBars, first_of, goes_elsewhere, is_node, IsPlaced}
unfoldable pub use Rattle.picture.specs.Bars.{stands}
pub use Rattle.picture.specs.Drawn.{IsDrawn, IsDrawnAsHeatMap, IsDrawnFor, IsDrawnInBands}
pub use Rattle.picture.specs.HeatMap.{AreHeatRows, AreLines, AreLooseLines, is_large, IsHeatMap, IsHeatRow, IsLine, node_of_row, shown_nodes}
pub use Rattle.picture.specs.Heats.{fullness, heat_at, heats_of, most_to, parts_of, power_of}
pub use Rattle.picture.specs.HeatText.{begun_at, change_text, shades_text}
unfoldable pub use Rattle.picture.specs.HeatText.{action_line_text, heat_map_text, heat_styles_text, row_text, shade_text}
pub use Rattle.picture.specs.Shades.{class_of_shade, is_same_shade, number_of_shade, shade_of, shade_of_parts}
pub use Rattle.picture.specs.Counts.{acting_step, IsActingCurve, IsPoweredCurve, is_under_way, powered_step}
pub use Rattle.picture.specs.Curves.{AreCurves, AreLoads, IsCurve, resource_of_curve, steps_of}
pub use Rattle.picture.specs.Picture.{AreBands, AreLoose, IsBand, IsPicture, is_shown, node_of_band, touches}
pub use Rattle.picture.specs.Text.{height_at, load_text, mark_text, rise, step_text, steps_text}
unfoldable pub use Rattle.picture.specs.Text.{band_text, bar_text, curve_text, head_text, picture_text, styles_text, twin_text}
