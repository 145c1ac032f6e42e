-- The elements of SVG that pictures use, as they are written. Classes say how they look.
use Rattle.std.specs.Prelude.{ℕ, ◌==◌, List, [], ◌∷◌, ◌++◌, codes, if◌then◌else◌}
use Rattle.std.specs.Fmt.{decimal}
use Rattle.std.specs.List.{flat_map}
use Rattle.svg.specs.declared.elements.Frame.{Frame}

-- ---- texts

-- a byte, written out where XML reserves it: & < > "
unfoldable pub escaped_byte : ℕ → List ℕ
escaped_byte b =
    if b == 38 then codes "&amp;" else (if b == 60 then codes "&lt;" else (if b == 62 then codes "&gt;" else (if b == 34 then codes "&quot;" else b ∷ [])))

-- a text in which no reserved character stands
abbrev pub escaped : List ℕ → List ℕ
escaped text = flat_map escaped_byte text

-- ---- parts of elements: a name with the classes of an element, and a number

unfoldable pub begun : List ℕ → List ℕ → List ℕ
begun element class = codes "<" ++ element ++ codes " class=\"" ++ class ++ codes "\""

unfoldable pub attribute : List ℕ → ℕ → List ℕ
attribute name number = codes " " ++ name ++ codes "=\"" ++ decimal number ++ codes "\""

-- two numbers beside each other
unfoldable pub pair_text : ℕ → ℕ → List ℕ
pair_text x y = decimal x ++ codes " " ++ decimal y

-- what a browser tells of the element around it
unfoldable pub title_text : List ℕ → List ℕ
title_text words = codes "<title>" ++ escaped words ++ codes "</title>"

-- ---- the picture

unfoldable pub svg_text : List ℕ
svg_text = codes "<svg xmlns=\"http://www.w3.org/2000/svg\" role=\"img\""

-- what is seen, from where on
unfoldable pub view_text : List ℕ
view_text = codes " viewBox=\"0 0 "

unfoldable pub open_text : ℕ → ℕ → List ℕ
open_text width height =
    svg_text ++ attribute (codes "width") width ++ attribute (codes "height") height ++ view_text ++ pair_text width height ++ codes "\">\n"

abbrev pub close_text : List ℕ
close_text = codes "</svg>\n"

-- what follows is shifted by one pixel, up to the end
unfoldable pub shifted_text : List ℕ → List ℕ
shifted_text class = begun (codes "g") class ++ codes " transform=\"translate(1 1)\">\n"

abbrev pub shifted_end_text : List ℕ
shifted_end_text = codes "</g>\n"

-- ---- rectangles, lines and words

unfoldable pub frame_text : List ℕ → Frame → List ℕ
frame_text class f =
    begun (codes "rect") class ++ attribute (codes "x") f.x ++ attribute (codes "y") f.y ++ attribute (codes "width") f.width
    ++ attribute (codes "height") f.height

unfoldable pub rect_text : List ℕ → Frame → List ℕ
rect_text class f = frame_text class f ++ codes "/>\n"

-- with round corners, and what a browser tells of it
unfoldable pub told_rect_text : List ℕ → Frame → List ℕ → List ℕ
told_rect_text class f tip = frame_text class f ++ codes " rx=\"2\">" ++ title_text tip ++ codes "</rect>\n"

unfoldable pub line_text : List ℕ → ℕ → ℕ → ℕ → ℕ → List ℕ
line_text class x y right low =
    begun (codes "line") class ++ attribute (codes "x1") x ++ attribute (codes "y1") y ++ attribute (codes "x2") right
    ++ attribute (codes "y2") low ++ codes "/>\n"

unfoldable pub words_text : List ℕ → ℕ → ℕ → List ℕ → List ℕ
words_text class x y words =
    begun (codes "text") class ++ attribute (codes "x") x ++ attribute (codes "y") y ++ codes ">" ++ escaped words ++ codes "</text>\n"

-- ---- paths: where one begins, across to a place and then up or down, and back to its beginning

unfoldable pub path_text : List ℕ → ℕ → ℕ → List ℕ
path_text class x y = begun (codes "path") class ++ codes " d=\"M" ++ pair_text x y

unfoldable pub turn_text : ℕ → ℕ → List ℕ
turn_text x y = codes "H" ++ decimal x ++ codes "V" ++ decimal y

abbrev pub path_end_text : List ℕ
path_end_text = codes "Z\"/>\n"
