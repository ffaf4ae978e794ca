-- The line of a signal in its form: what is asked of it, test by test, and each answer.
-- Assumes nothing.
use mathlib.Core.Path.{◌≡◌, sym, ◌∙◌}
use mathlib.Core.Bool.{Bool, true, ◌&&◌, and-eq-true_iff}
use mathlib.Core.List.{List, [], ◌∷◌}
use Prim.Native.Nat.{ℕ, ◌+◌, ◌-◌, ◌<◌, ◌≤◌}
use native.Mathlib.Omega.{arith}
use borrow.Author.Tests.{ltb-true, lt-ltb, leb-true, le-leb}
use lib.Dec.{leb, ltb}
use lib.ListN.{length, get_or}
use Rattle.read_bytes.specs.Read.Read.{got, refused}
use Rattle.read_bytes.specs.Bytes.{bytes, byte, starts}
use Rattle.read_lines.specs.Lines.{line_end, keyed_at}
use Rattle.read_bytes.proofs.Places.{peek_in}
use Rattle.read_bytes.proofs.Answers.{through, unless}
use Rattle.write_bytes.proofs.Standing.{starts_both, starts_then, starts_one, one_starts}
use Rattle.read_lines.proofs.ValueFirst.{keyed_is, keyed_by}
use Rattle.read_lines.proofs.Stays.{Stays, pick_stays}
use Rattle.spec_dump.specs.DumpTexts.{id_byte, var_key}
use Rattle.spec_dump.specs.DumpLines.{var_form}

-- What is asked of the line of signal x at p. Its LF stands at e.
pub record Formed (d : List ℕ) (x p e : ℕ) : Type 0 where
  pub key : keyed_at d p (bytes "$var wire 1 ") ≡ true
  pub long : p + 14 ≤ length d
  pub id : get_or d (p + 12) 0 ≡ id_byte x
  pub space : get_or d (p + 13) 0 ≡ byte " "
  pub inside : e < length d
  pub room : p + 19 ≤ e
  pub ended : starts d (e - 5) (bytes " $end") ≡ true

-- The test of it.
abbrev asked : List ℕ → ℕ → ℕ → ℕ → Bool
asked d x p e = keyed_at d p (var_key x) && ltb e (length d) && leb (p + 19) e && starts d (e - 5) (bytes " $end")

module _ (d : List ℕ) (x p : ℕ) where
  -- The key, part by part.
  key_parts : keyed_at d p (var_key x) ≡ true
      → (keyed_at d p (bytes "$var wire 1 ") ≡ true) × (p + 14 ≤ length d) × (get_or d (p + 12) 0 ≡ id_byte x) × (get_or d (p + 13) 0 ≡ byte " ")
  unfolding var_key
  key_parts k =
      let h = keyed_is d p (var_key x) k in
      let a = starts_both d p (bytes "$var wire 1 ") (id_byte x ∷ bytes " ") h.1 in
      let b = starts_both d (p + 12) (id_byte x ∷ []) (bytes " ") a.1 in
      let n : p + 12 + 1 ≡ p + 13 = omega arith in
      let l : p + 14 ≤ length d = omega (arith, h.0) in (
        sym (keyed_by d p (bytes "$var wire 1 ") (omega arith)) ∙ a.0,
        l,
        peek_in d (p + 12) (omega arith) ∙ sym (starts_one d (p + 12) (id_byte x) b.0),
        peek_in d (p + 13) (omega arith) ∙ sym (starts_one d (p + 13) (byte " ") (rw n at b.1)),
      )

  parts_key : {e : ℕ} → Formed d x p e → keyed_at d p (var_key x) ≡ true
  unfolding var_key
  parts_key h =
      let l = h.long in
      let n : p + 12 + 1 ≡ p + 13 = omega arith in
      let i = one_starts d (p + 12) (id_byte x) (sym h.id ∙ peek_in d (p + 12) (omega arith)) in
      let b = one_starts d (p + 13) (byte " ") (sym h.space ∙ peek_in d (p + 13) (omega arith)) in
      let a = starts_then d (p + 12) (id_byte x ∷ []) (bytes " ") i (rw n b) in
      sym (keyed_by d p (var_key x) l) ∙ starts_then d p (bytes "$var wire 1 ") (id_byte x ∷ bytes " ") (keyed_is d p (bytes "$var wire 1 ") h.key).1 a

  -- What passes the test has the form.
  all_asked : (e : ℕ) → asked d x p e ≡ true → Formed d x p e
  all_asked e t =
      let a = (and-eq-true_iff _ (starts d (e - 5) (bytes " $end"))).0 t in
      let b = (and-eq-true_iff _ (leb (p + 19) e)).0 a.0 in
      let g = (and-eq-true_iff (keyed_at d p (var_key x)) (ltb e (length d))).0 b.0 in
      let k = key_parts g.0 in
      record {
        key = k.0;
        long = k.1;
        id = k.2;
        space = k.3;
        inside = ltb-true e (length d) g.1;
        room = leb-true (p + 19) e b.1;
        ended = a.1;
      }

  -- Where e is the place of the LF.
  module _ (e : ℕ) (is : e ≡ line_end d (p + 14)) where
    pub form_is : Formed d x p e → got (p + 14) e ≡ var_form d x p
    unfolding var_form
    form_is h = rw (← is, parts_key h, lt-ltb e (length d) h.inside, le-leb (p + 19) e h.room, h.ended)

    pub form_not : (Formed d x p e → ⊥) → refused 22 p ≡ var_form d x p
    unfolding var_form
    form_not n = rw (← is) (unless (asked d x p e) _ (refused 22 p) (λ t. n (all_asked e t)))

  -- Its places are in the dump.
  pub form_stays : p ≤ length d → Stays (λ v. v ≤ length d) (length d) (var_form d x p)
  unfolding var_form
  form_stays h =
      let e : ℕ = line_end d (p + 14) in
      pick_stays (λ v. v ≤ length d) (length d) (asked d x p e) (got (p + 14) e) (refused 22 p)
      (λ t. let f = all_asked e t in (f.long, omega (arith, f.inside))) h

  -- What was read has the form.
  pub form_said : {v e : ℕ} → var_form d x p ≡ got v e → Formed d x p e × (v ≡ p + 14)
  unfolding var_form
  form_said {v} {e} h =
      let t = through _ (p + 14) (line_end d (p + 14)) 22 p h in
      let is : e ≡ line_end d (p + 14) = sym t.2 in
      (rw is (all_asked (line_end d (p + 14)) t.0), sym t.1)
