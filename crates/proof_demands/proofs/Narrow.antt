-- A text r and what follows it, x: what is accepted in r ++ x and ends in r is read alike in r alone.
-- Assumes nothing.
use mathlib.Core.Path.{◌≡◌, refl, sym, ap, ◌∙◌}
use mathlib.Core.Bool.{Bool, true, false}
use mathlib.Core.List.{List, [], ◌∷◌, ◌++◌}
use Prim.Native.Nat.{ℕ, zero, suc, ◌+◌, ◌-◌, ◌*◌, ◌<◌, ◌≤◌}
use native.Mathlib.Omega.{arith}
use lib.Dec.{eqb}
use lib.ListN.{length, drop, length-append, length-drop}
use lib.Seq.{drop-append-le}
use Rattle.std.specs.Prelude.{Option, Some}
use Rattle.read_bytes.specs.Read.Read.{got}
use Rattle.read_bytes.specs.Bytes.{bytes, byte, peek, between, digit, name_byte, run, run_at, run_end, every}
use Rattle.read_names.specs.Spellings.{spelling_end, is_spelled, name_at}
use Rattle.read_bytes.specs.Numbers.{digits, number}
use Rattle.read_lines.specs.Lines.{in_line, line_end, line, number_line, ranged_line, name_line}
use Rattle.read_names.proofs.Spelling.{is_word}
use Rattle.read_names.proofs.Names.{named, name_reach}
use Rattle.read_bytes.proofs.Values.{same_some, digits_reach, number_reach}
use Rattle.read_bytes.proofs.Answers.{came, through}
use Rattle.read_lines.proofs.KeyedLines.{Placed, line_is, whole_is, number_line_is, name_line_is, number_held, name_held}
use Rattle.read_lines.proofs.Prefix.{peek_kept, starts_kept}

-- A run that ends in the text is the same without what follows.
run_narrow : (P : ℕ → Bool) (l x : List ℕ) → length (run P (l ++ x)) < length l → run P l ≡ run P (l ++ x)
unfolding run
run_narrow P [] x h = absurd (omega arith)
run_narrow P (y ∷ l) x h = go (P y) refl h (run_narrow P l x)
  where
    go : (b : Bool) → P y ≡ b → length (run P (y ∷ (l ++ x))) < length (y ∷ l) → (length (run P (l ++ x)) < length l → run P l ≡ run P (l ++ x)) → run P (y ∷ l) ≡ run P (y ∷ (l ++ x))
    go true e i k = rw (e, k (let j = rw e at i in omega arith))
    go false e i k = rw e

module _ (r x : List ℕ) where
  run_at_narrow : (P : ℕ → Bool) (p : ℕ) → run_end P (r ++ x) p < length r → run_at P r p ≡ run_at P (r ++ x) p
  unfolding run_end run_at
  run_at_narrow P p h =
      let l = length-drop p r in
      let d = drop-append-le p r x (omega arith) in
      let k = rw d at h in
      rw d (run_narrow P (drop p r) x (omega (arith, k)))

  run_end_narrow : (P : ℕ → Bool) (p : ℕ) → run_end P (r ++ x) p < length r → run_end P r p ≡ run_end P (r ++ x) p
  unfolding run_end
  run_end_narrow P p h = ap (λ l. p + length l) (run_at_narrow P p h)

  is_word_narrow : (p : ℕ) (w : List ℕ) → every name_byte w ≡ true → spelling_end (r ++ x) p < length r → is_spelled r p w ≡ is_spelled (r ++ x) p w
  is_word_narrow p w all h = rw (is_word r p w all, is_word (r ++ x) p w all, run_at_narrow name_byte p h)

  name_at_narrow : (p : ℕ) {q : ℕ} {n : Option ℕ} → name_at (r ++ x) p ≡ Some (q, n) → q < length r → name_at r p ≡ Some (q, n)
  unfolding name_at every name_byte
  name_at_narrow p e h =
      let n = named (r ++ x) p e in
      let a = name_reach (r ++ x) p e in
      let l : spelling_end (r ++ x) p < length r = omega (arith, n.ends) in
      rw (sym (peek_kept r x p (omega (arith, a.0.ahead))), run_at_narrow name_byte p l, run_end_narrow name_byte p l, is_word_narrow p (bytes "since") refl l, is_word_narrow p (bytes "until") refl l) e

  digits_narrow : (k p v : ℕ) {y q : ℕ} → p ≤ length (r ++ x) → digits (r ++ x) k p v ≡ (y, q) → q < length r → digits r k p v ≡ (y, q)
  unfolding digits
  digits_narrow zero p v h e l = e
  digits_narrow (suc k) p v {y} {q} h e l = go (digit (peek r p)) refl (digits_narrow k (p + 1) (10 * v + (peek r p - byte "0")))
    where
      a : p ≤ q
      a = (digits_reach (r ++ x) (suc k) p v h e).0.ahead

      same : peek (r ++ x) p ≡ peek r p
      same = peek_kept r x p (omega (arith, a))

      go : (b : Bool) → digit (peek r p) ≡ b → (p + 1 ≤ length (r ++ x) → digits (r ++ x) k (p + 1) (10 * v + (peek r p - byte "0")) ≡ (y, q) → q < length r → digits r k (p + 1) (10 * v + (peek r p - byte "0")) ≡ (y, q)) → digits r (suc k) p v ≡ (y, q)
      go true d i = rw d (i (omega (arith, a, length-append r x)) (rw (same, d) at e) l)
      go false d i = rw d (rw (same, d) at e)

  number_narrow : (p : ℕ) {y q : ℕ} → number (r ++ x) p ≡ Some (y, q) → q < length r → number r p ≡ Some (y, q)
  unfolding number
  number_narrow p {y} {q} e l = go (eqb (peek r p) (byte "0")) refl (between (byte "1") (byte "9") (peek r p)) refl
    where
      a : p + 1 ≤ q
      a = (number_reach (r ++ x) p e).0.ahead

      same : peek (r ++ x) p ≡ peek r p
      same = peek_kept r x p (omega (arith, a))

      go : (b : Bool) → eqb (peek r p) (byte "0") ≡ b → (c : Bool) → between (byte "1") (byte "9") (peek r p) ≡ c → number r p ≡ Some (y, q)
      go true f c g = rw f (rw (same, f) at e)
      go false f true g = rw (f, g) (ap Some (digits_narrow 5 p 0 (omega (arith, a, length-append r x)) (same_some (rw (same, f, g) at e)) l))
      go false f false g = rw (f, g) (rw (same, f, g) at e)

  module _ (p : ℕ) (key : List ℕ) (form : ℕ) where
    placed_narrow : {v e : ℕ} → Placed (r ++ x) p key v e → e < length r → line r p key form ≡ got v e
    placed_narrow {v} {e} h l =
        let i = h.value in
        let f : line_end (r ++ x) (p + length key) < length r = omega (arith, h.ends, ap (line_end (r ++ x)) i) in
        let d : e ≡ line_end r (p + length key) = h.ends ∙ ap (line_end (r ++ x)) i ∙ sym (run_end_narrow in_line (p + length key) f) in
        rw i (sym (line_is r p key form e (sym (starts_kept r x p key (omega (arith, h.order))) ∙ h.keyed) d l))

    number_line_narrow : {y q : ℕ} → number_line (r ++ x) p key form ≡ got y q → q ≤ length r → number_line r p key form ≡ got y q
    number_line_narrow {y} e l =
        let h = number_held (r ++ x) p key form e in
        let b : h.lf < length r = omega (arith, h.next, l) in
        let n = number_narrow h.value h.what b in
        sym (number_line_is r p key form (placed_narrow h.at b) n) ∙ sym (whole_is y h.lf h.lf form p refl) ∙ ap (got y) h.next

    pub ranged_line_narrow : (content lo hi : ℕ) {y q : ℕ} → ranged_line (r ++ x) p key form content lo hi ≡ got y q → q ≤ length r → ranged_line r p key form content lo hi ≡ got y q
    unfolding ranged_line
    ranged_line_narrow content lo hi e l =
        let d = came (number_line (r ++ x) p key form) _ e in
        let t = through (between lo hi d.value) d.value d.place content (p + length key) d.then in
        rw (number_line_narrow d.first (omega (arith, t.2))) d.then

    pub name_line_narrow : (content : ℕ) {v q : ℕ} → name_line (r ++ x) p key form content ≡ got v q → q ≤ length r → name_line r p key form content ≡ got v q
    name_line_narrow content {v} e l =
        let h = name_held (r ++ x) p key form content e in
        let b : h.lf < length r = omega (arith, h.next, l) in
        let n = name_at_narrow h.value h.what.0 b in
        sym (name_line_is r p key form (placed_narrow h.at b) content n) ∙ sym (whole_is h.value h.lf h.lf content h.value refl) ∙ cc (h.next, h.what.1)
