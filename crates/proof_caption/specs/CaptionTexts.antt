-- Captions' texts in the request's words (E7): which are accepted, and what is wrong with the others.
-- Assumes nothing. `names` are the declared names in sheet order, c is a captions' text and p a place in it.
use Rattle.std.specs.Prelude.{◌≡◌, true, List, ◌++◌, ℕ, suc, ◌+◌, ◌<◌, ◌≤◌, length}
use Rattle.spec_limits.specs.Limits.{most_caption_bytes}
use Rattle.read_bytes.specs.Bytes.{bytes, every}
use Rattle.read_names.specs.Spellings.{find_name}
use Rattle.read_lines.specs.Lines.{lf_at, keyed_at}
use Rattle.read_captions.specs.Captions.{printable, before_equals}

-- "Captions of 1 to 40 printable ASCII bytes."
pub record CaptionText (k : List ℕ) : Type 0 where
  pub some : 1 ≤ length k
  pub short : length k ≤ most_caption_bytes
  pub plain : every printable k ≡ true

-- The line `name=caption`, with its LF.
unfoldable pub caption_line_text : List ℕ → List ℕ → List ℕ
caption_line_text w k = w ++ (bytes "=" ++ (k ++ bytes "\n"))

-- A line of its form stands at p: w is what stands before its first `=`, and k its caption.
pub record LineAt (c : List ℕ) (p : ℕ) (w k : List ℕ) : Type 0 where
  pub stands : keyed_at c p (caption_line_text w k) ≡ true
  pub before : every before_equals w ≡ true
  pub caption : CaptionText k

-- A line starts at p: at the start of the text, or after an LF.
pub data LineStart (c : List ℕ) : ℕ → Type 0 where
  first : LineStart c 0
  after : {p : ℕ} → lf_at c p ≡ true → LineStart c (suc p)

-- "The name has a line": w has one, and its caption k stands at v.
pub record HasLine (c w k : List ℕ) (v : ℕ) : Type 0 where
  pub from : ℕ
  pub starts : LineStart c from
  pub line : LineAt c from w k
  pub place : v ≡ from + length w + 1

-- "Lines `name=caption`, at most one for each name": every line is of its form, its name is declared, and no two lines have one name.
pub record WellCaptioned (names : List (List ℕ)) (c : List ℕ) : Type 0 where
  pub lines : (p : ℕ) → p < length c → LineStart c p → (w : List ℕ) × (k : List ℕ) × LineAt c p w k × (find_name w names < length names)
  pub once : (w k l : List ℕ) (p q : ℕ) → LineStart c p → LineAt c p w k → LineStart c q → LineAt c q w l → p ≡ q

-- What is wrong with the line that starts at p: "24 for a caption line not of its form or a name repeated, 12 for a name that isn't declared".
pub data LineFault (names : List (List ℕ)) (c : List ℕ) (p : ℕ) : ℕ → Type 0 where
  not_formed : ((w k : List ℕ) → LineAt c p w k → ⊥) → LineFault names c p 24
  not_declared : {w k : List ℕ} → LineAt c p w k → (find_name w names < length names → ⊥) → LineFault names c p 12
  repeated : {w k l : List ℕ} {q : ℕ} → LineAt c p w k → find_name w names < length names → q < p → LineStart c q → LineAt c q w l → LineFault names c p 24

-- The first line with which something is wrong starts at p, and n tells what: "line by line".
pub record FirstFault (names : List (List ℕ)) (c : List ℕ) (n p : ℕ) : Type 0 where
  pub within : p < length c
  pub starts : LineStart c p
  pub fault : LineFault names c p n
  pub earlier : (q m : ℕ) → q < p → LineStart c q → LineFault names c q m → ⊥
