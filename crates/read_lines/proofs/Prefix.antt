-- A text r and what follows it, x: what was accepted in r is read alike in r ++ x, as no reader looks past the LF of its line.
-- Assumes nothing.
use mathlib.Core.Path.{◌≡◌, refl, sym, ap, ◌∙◌}
use mathlib.Core.Bool.{Bool, true, false}
use mathlib.Core.List.{List, [], ◌∷◌, ◌++◌}
use Prim.Native.Nat.{ℕ, zero, suc, ◌+◌, ◌-◌, ◌*◌, ◌<◌, ◌≤◌}
use native.Mathlib.Omega.{arith}
use lib.Dec.{eqb}
use lib.ListN.{length, drop, length-append, length-drop, get_or-append}
use lib.Seq.{drop-append-le}
use Rattle.std.specs.Prelude.{Option, Some}
use Rattle.read_bytes.specs.Read.Read.{got}
use Rattle.read_bytes.specs.Bytes.{bytes, byte, peek, between, digit, name_byte, starts, run, run_at, run_end, every}
use Rattle.read_names.specs.Spellings.{spelling_at, spelling_end, is_spelled, name_at}
use Rattle.read_bytes.specs.Numbers.{digits, number}
use Rattle.read_lines.specs.Lines.{in_line, line_end, line, number_line, ranged_line, name_line}
use Rattle.read_names.proofs.Spelling.{is_word}
use Rattle.read_names.proofs.Names.{named, name_reach}
use Rattle.read_bytes.proofs.Values.{same_some, digits_reach, number_reach}
use Rattle.read_bytes.proofs.Answers.{came}
use Rattle.read_lines.proofs.KeyedLines.{Placed, line_is, whole_is, number_line_is, name_line_is, number_held, name_held}

-- A run that ends inside a text is the same if the text goes on.
run_kept : (P : ℕ → Bool) (l x : List ℕ) → length (run P l) < length l → run P (l ++ x) ≡ run P l
unfolding run
run_kept P [] x h = let z : ⊥ = omega arith in absurd z
run_kept P (y ∷ l) x h = go (P y) refl h (run_kept P l x)
  where
    go : (b : Bool) → P y ≡ b → length (run P (y ∷ l)) < length (y ∷ l) → (length (run P l) < length l → run P (l ++ x) ≡ run P l) → run P (y ∷ (l ++ x)) ≡ run P (y ∷ l)
    go true e i k = rw (e, k (let j = rw e at i in omega arith))
    go false e i k = rw e

module _ (r x : List ℕ) where
  pub peek_kept : (p : ℕ) → p < length r → peek (r ++ x) p ≡ peek r p
  unfolding peek
  peek_kept p h = get_or-append r x (byte "\n") p h

  pub starts_kept : (p : ℕ) (w : List ℕ) → p + length w ≤ length r → starts (r ++ x) p w ≡ starts r p w
  unfolding starts
  starts_kept p [] h = refl
  starts_kept p (y ∷ w) h =
      let i : p + 1 + length w ≤ length r = omega arith in
      rw (peek_kept p (omega arith), starts_kept (p + 1) w i)

  pub run_at_kept : (P : ℕ → Bool) (p : ℕ) → run_end P r p < length r → run_at P (r ++ x) p ≡ run_at P r p
  unfolding run_end run_at
  run_at_kept P p h =
      let l = length-drop p r in
      rw (drop-append-le p r x (omega arith)) (run_kept P (drop p r) x (omega arith))

  pub run_end_kept : (P : ℕ → Bool) (p : ℕ) → run_end P r p < length r → run_end P (r ++ x) p ≡ run_end P r p
  unfolding run_end
  run_end_kept P p h = ap (λ l. p + length l) (run_at_kept P p h)

  -- A spelling that is since or until stays so, as the spelling is the same.
  is_word_kept : (p : ℕ) (w : List ℕ) → every name_byte w ≡ true → spelling_end r p < length r → is_spelled (r ++ x) p w ≡ is_spelled r p w
  is_word_kept p w all h = rw (is_word (r ++ x) p w all, is_word r p w all, run_at_kept name_byte p h)

  -- names
  pub name_at_kept : (p : ℕ) {q : ℕ} {n : Option ℕ} → name_at r p ≡ Some (q, n) → q < length r → name_at (r ++ x) p ≡ Some (q, n)
  unfolding name_at every name_byte
  name_at_kept p e h =
      let n = named r p e in
      let a = name_reach r p e in
      let l : spelling_end r p < length r = omega (arith, n.ends) in
      rw (peek_kept p (omega (arith, a.0.ahead)), run_at_kept name_byte p l, run_end_kept name_byte p l, is_word_kept p (bytes "since") refl l, is_word_kept p (bytes "until") refl l) e

  -- numbers
  digits_kept : (k p v : ℕ) {y q : ℕ} → p ≤ length r → digits r k p v ≡ (y, q) → q < length r → digits (r ++ x) k p v ≡ (y, q)
  unfolding digits
  digits_kept zero p v h e l = e
  digits_kept (suc k) p v {y} {q} h e l = go (digit (peek r p)) refl (digits_kept k (p + 1) (10 * v + (peek r p - byte "0")))
    where
      a : p ≤ q
      a = (digits_reach r (suc k) p v h e).0.ahead

      go : (b : Bool) → digit (peek r p) ≡ b → (p + 1 ≤ length r → digits r k (p + 1) (10 * v + (peek r p - byte "0")) ≡ (y, q) → q < length r → digits (r ++ x) k (p + 1) (10 * v + (peek r p - byte "0")) ≡ (y, q)) → digits (r ++ x) (suc k) p v ≡ (y, q)
      go true d i = rw (peek_kept p (omega (arith, a)), d) (i (omega (arith, a)) (rw d at e) l)
      go false d i = rw (peek_kept p (omega (arith, a)), d) (rw d at e)

  pub number_kept : (p : ℕ) {y q : ℕ} → number r p ≡ Some (y, q) → q < length r → number (r ++ x) p ≡ Some (y, q)
  unfolding number
  number_kept p {y} {q} e l = go (eqb (peek r p) (byte "0")) refl (between (byte "1") (byte "9") (peek r p)) refl
    where
      a : p + 1 ≤ q
      a = (number_reach r p e).0.ahead

      go : (b : Bool) → eqb (peek r p) (byte "0") ≡ b → (c : Bool) → between (byte "1") (byte "9") (peek r p) ≡ c → number (r ++ x) p ≡ Some (y, q)
      go true f c g = rw (peek_kept p (omega (arith, a)), f) (rw f at e)
      go false f true g = rw (peek_kept p (omega (arith, a)), f, g) (ap Some (digits_kept 5 p 0 (omega (arith, a)) (same_some (rw (f, g) at e)) l))
      go false f false g = rw (peek_kept p (omega (arith, a)), f, g) (rw (f, g) at e)

  -- A line.
  module _ (p : ℕ) (key : List ℕ) (form : ℕ) where
    placed_kept : {v e : ℕ} → Placed r p key v e → line (r ++ x) p key form ≡ got v e
    placed_kept {v} {e} h =
        let i = h.value in
        let j = h.ends in
        let f : line_end r (p + length key) < length r = omega (arith, h.inside, ap (line_end r) i) in
        let d : e ≡ line_end (r ++ x) (p + length key) = h.ends ∙ ap (line_end r) i ∙ sym (run_end_kept in_line (p + length key) f) in
        rw i (sym (line_is (r ++ x) p key form e (starts_kept p key (omega (arith, h.order, h.inside)) ∙ h.keyed) d (omega (arith, length-append r x, h.inside))))

    pub number_line_kept : {y q : ℕ} → number_line r p key form ≡ got y q → number_line (r ++ x) p key form ≡ got y q
    number_line_kept {y} e =
        let h = number_held r p key form e in
        let n = number_kept h.value h.what h.at.inside in
        sym (number_line_is (r ++ x) p key form (placed_kept h.at) n) ∙ sym (whole_is y h.lf h.lf form p refl) ∙ ap (got y) h.next

    pub ranged_line_kept : (content lo hi : ℕ) {y q : ℕ} → ranged_line r p key form content lo hi ≡ got y q → ranged_line (r ++ x) p key form content lo hi ≡ got y q
    unfolding ranged_line
    ranged_line_kept content lo hi e =
        let d = came (number_line r p key form) _ e in
        rw (number_line_kept d.first) d.then

    pub name_line_kept : (content : ℕ) {v q : ℕ} → name_line r p key form content ≡ got v q → name_line (r ++ x) p key form content ≡ got v q
    name_line_kept content {v} e =
        let h = name_held r p key form content e in
        let n = name_at_kept h.value h.what.0 h.at.inside in
        sym (name_line_is (r ++ x) p key form (placed_kept h.at) content n) ∙ sym (whole_is h.value h.lf h.lf content h.value refl) ∙ cc (h.next, h.what.1)

    -- the spelling of an accepted name
    pub word_kept : (content : ℕ) {v q : ℕ} → name_line r p key form content ≡ got v q → spelling_at (r ++ x) v ≡ spelling_at r v
    word_kept content {v} e =
        let h = name_held r p key form content e in
        let n = named r h.value h.what.0 in
        let l : spelling_end r h.value < length r = omega (arith, n.ends, h.at.inside) in
        rw h.what.1 at (run_at_kept name_byte h.value l)
