-- The name in a signal's line: what stands there is declared only if it is the whole spelling there, and each answer of the line.
-- Assumes nothing.
use mathlib.Core.Path.{◌≡◌, refl, sym, ap, ◌∙◌}
use mathlib.Core.Bool.{false}
use mathlib.Core.List.{List, [], ◌∷◌}
use Prim.Native.Nat.{ℕ, ◌+◌, ◌-◌, ◌<◌, ◌≤◌}
use native.Mathlib.Omega.{arith}
use borrow.Author.Tests.{eq-eqb, ne_eqb, lt-ltb, le-ltb}
use lib.ListN.{length, take, drop}
use Rattle.read_bytes.specs.Read.{Read}
use Rattle.read_bytes.specs.Read.Read.{got, refused}
use Rattle.read_bytes.specs.Bytes.{bytes, byte, peek, name_byte}
use Rattle.read_names.specs.Spellings.{spelling_at, spelling_end, find_name}
use Rattle.read_index.specs.declared.Found.{Found}
use Rattle.read_index.specs.Index.{name_count, names_in}
use Rattle.read_index.specs.Finds.{Finds}
use Rattle.read_bytes.proofs.Runs.{run_slice, end_at_lem}
use Rattle.read_index.proofs.Places.{names_in_many}
use Rattle.read_index.proofs.NotNames.{not_found}
use Rattle.write_bytes.proofs.Standing.{starts_both, starts_one}
use Rattle.spec_dump.specs.DumpLines.{var_form, var_name, named_var, var_line}
use Rattle.dump_lines.proofs.VarForms.{form_said}

module _ (s T d : List ℕ) (x p : ℕ) {v e : ℕ} (a : var_form d x p ≡ got v e) where
  -- The byte after the name is none of a name's.
  space_after : name_byte (peek d (e - 5)) ≡ false
  unfolding name_byte
  space_after =
      let h = (form_said d x p a).0 in
      rw (← starts_one d (e - 5) (byte " ") (starts_both d (e - 5) (byte " " ∷ []) (bytes "$end") h.ended).0) refl

  -- A text whose spelling ends elsewhere is not declared.
  part_unknown : (spelling_end d v ≡ e - 5 → ⊥) → find_name (var_name d v e) (names_in s T) ≡ name_count T
  unfolding var_name
  part_unknown n =
      let h = form_said d x p a in
      not_found s T (take (e - 5 - v) (drop v d))
      (λ all. n (end_at_lem name_byte d v (e - 5) (omega (arith, h.0.room, h.1)) (omega (arith, h.0.inside)) all space_after))

  whole_name_lem : spelling_end d v ≡ e - 5 → var_name d v e ≡ spelling_at d v
  unfolding var_name
  whole_name_lem i = run_slice name_byte d v (e - 5) (sym i)

  -- The line with its name's number.
  by_number : (f : ℕ) → find_name (var_name d v e) (names_in s T) ≡ f → {R : Read ℕ} → R ≡ named_var (length (names_in s T)) x p v e f → R ≡ var_line (names_in s T) d x p
  unfolding var_line
  by_number f i h = rw (a, i) h

  module _ {f : Found} (g : Finds (names_in s T) d v f) where
    -- The name is only a part of what stands there.
    pub var_open : x < name_count T → (f.end ≡ e - 5 → ⊥) → refused 12 v ≡ var_line (names_in s T) d x p
    unfolding named_var
    var_open l n =
        let m = names_in_many s T in
        by_number (name_count T) (part_unknown (λ i. n (g.ends ∙ i)))
        (rw (ne_eqb (name_count T) x (λ i. omega arith), le-ltb (name_count T) (length (names_in s T)) (omega arith)))

    module _ (i : f.end ≡ e - 5) where
      number : find_name (var_name d v e) (names_in s T) ≡ f.signal
      number = ap (λ w. find_name w (names_in s T)) (whole_name_lem (sym g.ends ∙ i)) ∙ sym g.found

      -- It is the signal's own,
      pub var_is : f.signal ≡ x → got x (e + 1) ≡ var_line (names_in s T) d x p
      unfolding named_var
      var_is h = by_number f.signal number (rw (eq-eqb f.signal x h))

      -- or another's,
      pub var_other : (f.signal ≡ x → ⊥) → f.signal < name_count T → refused 22 p ≡ var_line (names_in s T) d x p
      unfolding named_var
      var_other n l =
          let m = names_in_many s T in
          by_number f.signal number (rw (ne_eqb f.signal x n, lt-ltb f.signal (length (names_in s T)) (omega arith)))

      -- or nobody's.
      pub var_none : (f.signal ≡ x → ⊥) → name_count T ≤ f.signal → refused 12 v ≡ var_line (names_in s T) d x p
      unfolding named_var
      var_none n l =
          let m = names_in_many s T in
          by_number f.signal number (rw (ne_eqb f.signal x n, le-ltb f.signal (length (names_in s T)) (omega arith)))
