-- Which bytes have a value.
use Rattle.base.proofs.Public.{◌≡◌, ℕ, List, Bool, true, false, Some, None, refl, IsUtf8, is_utf8, IsUtf8-from_is_utf8, is_utf8-from_IsUtf8}
use Rattle.json_walk.specs.Json.{json_of}
use Rattle.serde_json.specs.Data.{Data}
use Rattle.serde_json.specs.Read.{read}

pub json_of-text : (bytes : List ℕ) (d : Data) → IsUtf8 bytes × (read bytes ≡ Some d) → json_of bytes ≡ Some d
json_of-text bytes d h = rw (is_utf8-from_IsUtf8 bytes h.0) h.1

by_test : (bytes : List ℕ) (b : Bool) → is_utf8 bytes ≡ b → (IsUtf8 bytes → read bytes ≡ None) → json_of bytes ≡ None
by_test bytes true is h = rw is (h (IsUtf8-from_is_utf8 bytes is))
by_test bytes false is h = rw is refl

pub json_of-no_text : (bytes : List ℕ) → (IsUtf8 bytes → read bytes ≡ None) → json_of bytes ≡ None
json_of-no_text bytes h = by_test bytes (is_utf8 bytes) refl h

pub ruleset text_rules = (json_of-text, json_of-no_text)
