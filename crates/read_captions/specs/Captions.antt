-- Captions by house, read line by line (E7): "lines `name=caption`, at most one for each name, captions of 1 to 40 printable ASCII bytes".
-- Assumes nothing. `names` are the declared names in sheet order, c is the captions' text and p a place in it. What is kept of the lines is a list `at` with an entry
-- for each signal: the place of its caption in c, where it has one.
use Rattle.std.specs.Prelude.{◌≡◌, Bool, not, ◌&&◌, List, ℕ, zero, suc, ◌+◌, ltb, eqb, length, get_or, set, replicate, Option, Some, None, Result, Ok, Err}
use Rattle.std.specs.Option.{is_some}
use Rattle.spec_limits.specs.Limits.{most_caption_bytes}
use Rattle.spec_refusals.specs.Numbers.{fault_number, Refusal}
use Rattle.read_bytes.specs.Read.{Read, and_then}
use Rattle.read_bytes.specs.Read.Read.{got, refused}
use Rattle.read_bytes.specs.Bytes.{byte, peek, pick, between, run_at, run_end}
use Rattle.read_names.specs.Spellings.{find_name}
use Rattle.read_lines.specs.Lines.{in_line, lf_at}

-- Is b a printable ASCII byte?
unfoldable pub printable : ℕ → Bool
printable b = between (byte " ") (byte "~") b

-- Is b neither `=` nor LF?
unfoldable pub before_equals : ℕ → Bool
before_equals b = in_line b && not (eqb b (byte "="))

-- What stands in the name's place of the line at p: all before its first `=`.
abbrev pub name_part : List ℕ → ℕ → List ℕ
name_part = run_at before_equals

-- The place of the caption of the line at p: after its first `=`.
abbrev pub caption_place : List ℕ → ℕ → ℕ
caption_place c p = run_end before_equals c p + 1

-- The caption at v: all printable bytes from there on.
abbrev pub caption_at : List ℕ → ℕ → List ℕ
caption_at = run_at printable

-- The place after the caption at v.
abbrev pub caption_end : List ℕ → ℕ → ℕ
caption_end = run_end printable

-- The line at p in its form, whatever stands in the name's place: the place of its caption, and that of its LF. Or 24 at p.
unfoldable pub caption_form : List ℕ → ℕ → Read ℕ
caption_form c p =
    pick
    (eqb (peek c (run_end before_equals c p)) (byte "=") && between 1 most_caption_bytes (length (caption_at c (caption_place c p))) && lf_at c (caption_end c (caption_place c p)))
    (λ _. got (caption_place c p) (caption_end c (caption_place c p))) (refused 24 p)

-- The line at p, which ends before q, has a name with the number x of n: "12 for a name that isn't declared", at the name, "24 for a name repeated".
unfoldable pub given_once : List (Option ℕ) → ℕ → ℕ → ℕ → ℕ → Read ℕ
given_once at n p q x = pick (ltb x n) (λ _. pick (is_some (get_or at x None)) (λ _. refused 24 p) (got x q)) (refused 12 p)

-- The line at p: the number of its signal, and the place after the line.
unfoldable pub caption_line : List (List ℕ) → List ℕ → List (Option ℕ) → ℕ → Read ℕ
caption_line names c at p = and_then (caption_form c p) (λ v e. given_once at (length names) p (e + 1) (find_name (name_part c p) names))

-- The lines from p on, at most n, after those whose captions are in `at`.
unfoldable pub caption_lines : List (List ℕ) → List ℕ → ℕ → List (Option ℕ) → ℕ → Read (List (Option ℕ))
caption_lines names c zero at p = got at p
caption_lines names c (suc n) at p =
    pick (ltb p (length c)) (λ _. and_then (caption_line names c at p) (λ x q. caption_lines names c n (set at x (Some (caption_place c p))) q)) (got at p)

-- No signal has a caption yet.
unfoldable pub no_captions : ℕ → List (Option ℕ)
no_captions n = replicate n None

-- All captions of a text, "line by line".
unfoldable pub captions_in : List (List ℕ) → List ℕ → Read (List (Option ℕ))
captions_in names c = caption_lines names c (length c) (no_captions (length names)) 0

-- The line at p is taken: its signal is x, and its caption is in the list of captions, which was `at` and is at'.
pub record Taken (names : List (List ℕ)) (c : List ℕ) (p : ℕ) (at at' : List (Option ℕ)) (x q : ℕ) : Type 0 where
  pub line : caption_line names c at p ≡ got x q
  pub noted : at' ≡ set at x (Some (caption_place c p))

-- What an answer of the reader of a line says.
abbrev pub LineTaken : List (List ℕ) → List ℕ → ℕ → List (Option ℕ) → List (Option ℕ) → Result (ℕ × ℕ) Refusal → Type 0
LineTaken names c p at at' (Ok y) = Taken names c p at at' y.0 y.1
LineTaken names c p at at' (Err r) = caption_line names c at p ≡ refused (fault_number r.fault) r.place

-- What an answer of the reader of all lines says: the captions are in the list, up to the end of the text, or they are refused.
abbrev pub CaptionsNoted : List (List ℕ) → List ℕ → List (Option ℕ) → Result Unit Refusal → Type 0
CaptionsNoted names c at' (Ok y) = captions_in names c ≡ got at' (length c)
CaptionsNoted names c at' (Err r) = captions_in names c ≡ refused (fault_number r.fault) r.place
