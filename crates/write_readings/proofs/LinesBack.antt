-- Lines that are written are read back where they stand, inside a text: a line with a number, and one with a declared name.
-- Assumes nothing. The line stands at the place p of the text s.
use mathlib.Core.Path.{◌≡◌, sym, ap, ◌∙◌}
use mathlib.Core.Bool.{true}
use mathlib.Core.List.{List, [], ◌++◌}
use Prim.Native.Nat.{ℕ, ◌+◌, ◌<◌, ◌≤◌}
use native.Mathlib.Omega.{arith}
use borrow.Author.Tests.{lt-ltb, eq-eqb}
use lib.ListN.{length, get_or, length-append}
use Rattle.spec_tilco.proofs.Lists.{all_nth}
use Rattle.read_bytes.specs.Read.Read.{got}
use Rattle.read_bytes.specs.Bytes.{bytes, byte, peek}
use Rattle.read_names.specs.Spellings.{spelling_at, find_name}
use Rattle.read_lines.specs.Lines.{keyed_at, lf_at, number_line, ranged_line, name_line}
use Rattle.read_bytes.proofs.Places.{peek_in}
use Rattle.read_lines.proofs.KeyedLines.{ranged_in}
use Rattle.read_lines.proofs.ValueFirst.{lf_read, keyed_by, number_first, name_first}
use Rattle.read_reading.specs.OneEntry.{known_line}
use Rattle.write_bytes.specs.Writes.{decimal_text}
use Rattle.write_bytes.proofs.Standing.{Standing, starts_one, stands_first, stands_rest}
use Rattle.write_bytes.proofs.ReadBack.{number_back}
use Rattle.write_lines.specs.LineTexts.{line_text, number_text}
use Rattle.write_readings.proofs.ReadableNames.{WholeName, Readable, name_back, find_back}

-- A key, a value and LF stand one after the other.
pub record LineStands (s : List ℕ) (p : ℕ) (key value : List ℕ) : Type 0 where
  pub keyed : keyed_at s p key ≡ true
  pub held : Standing s (p + length key) value
  pub lf : peek s (p + length key + length value) ≡ byte "\n"
  pub ends : lf_at s (p + length key + length value) ≡ true
  pub next : p + length key + length value + 1 ≡ p + length (line_text key value)

pub line_stands : {s : List ℕ} {p : ℕ} (key value : List ℕ) → Standing s p (line_text key value) → LineStands s p key value
unfolding line_text
line_stands {s} {p} key value h =
    let k = stands_first key (value ++ bytes "\n") h in
    let r = stands_rest key (value ++ bytes "\n") h in
    let l = stands_rest value (bytes "\n") r in
    let q = p + length key + length value in
    let i : q < length s = omega (arith, l.inside) in
    let lf = sym (starts_one s q (byte "\n") l.bytes) in
    record {
      keyed = sym (keyed_by s p key k.inside) ∙ k.bytes;
      held = stands_first value (bytes "\n") r;
      lf = lf;
      ends = sym (lf_read s q i) ∙ eq-eqb (get_or s q 0) (byte "\n") (peek_in s q i ∙ lf);
      next = omega (arith, length-append key (value ++ bytes "\n"), length-append value (bytes "\n"));
    }

module _ {s : List ℕ} {p : ℕ} (key : List ℕ) (form : ℕ) where
  -- A line with a number is read as the number.
  pub number_line_back : (n : ℕ) → n < 100000 → Standing s p (number_text key n) → number_line s p key form ≡ got n (p + length (number_text key n))
  number_line_back n small h =
      let w = line_stands key (decimal_text n) h in
      let b = number_back s (p + length key) n small w.held.bytes (rw w.lf) in
      sym (number_first s p key form w.keyed w.ends b) ∙ ap (got n) w.next

  -- And as one of a range that has it.
  pub ranged_line_back : (content lo hi n : ℕ) → n < 100000 → lo ≤ n → n ≤ hi → Standing s p (number_text key n) → ranged_line s p key form content lo hi ≡ got n (p + length (number_text key n))
  ranged_line_back content lo hi n small l u h = sym (ranged_in s p key form content lo hi (number_line_back n small h) l u)

  -- A line with a name is read as the place of the name, and its spelling is the name.
  pub name_line_back : (content : ℕ) (w : List ℕ) → WholeName w → Standing s p (line_text key w) → (name_line s p key form content ≡ got (p + length key) (p + length (line_text key w))) × (spelling_at s (p + length key) ≡ w)
  name_line_back content w whole h =
      let a = line_stands key w h in
      let b = name_back s (p + length key) w whole a.held.bytes a.lf in
      (sym (name_first s p key form a.keyed a.ends content b.0) ∙ ap (got (p + length key)) a.next, b.1)

-- A line with one of the declared names is read as its number.
pub known_line_back : {s : List ℕ} {p : ℕ} (names : List (List ℕ)) (i : ℕ) → Readable names → i < length names → Standing s p (line_text (bytes "signal=") (get_or names i []))
    → known_line names s p ≡ got i (p + length (line_text (bytes "signal=") (get_or names i [])))
unfolding known_line
known_line_back {s} {p} names i r h st =
    let w = get_or names i [] in
    let a = name_line_back (bytes "signal=") 11 12 w (all_nth WholeName [] names i r.whole h) st in
    let e : find_name (spelling_at s (p + length (bytes "signal="))) names ≡ i = ap (λ (x : List ℕ). find_name x names) a.1 ∙ find_back names r.differ i h in
    rw (a.0, e, lt-ltb i (length names) h)
