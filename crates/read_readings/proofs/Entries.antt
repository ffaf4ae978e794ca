-- The entries of a text, read one after the other up to its end: what follows an accepted text is read as by itself.
-- Assumes of an entry's reader that what stands before or after the entry changes nothing. A reading is such an entry.
use mathlib.Core.Path.{◌≡◌, refl, sym, ap, subst, ◌∙◌}
use mathlib.Core.Bool.{Bool, true, false}
use mathlib.Core.List.{List, [], ◌∷◌, ◌++◌, append-nil, append_assoc, flatten}
use Prim.Native.Nat.{ℕ, zero, suc, ◌+◌, ◌≤◌}
use native.Mathlib.Omega.{arith}
use borrow.Author.Tests.{ltb-true, ltb-false}
use lib.Dec.{ltb}
use lib.ListN.{length, take, length-append}
use Rattle.read_bytes.specs.Read.{Read}
use Rattle.read_bytes.specs.Read.Read.{got, refused}
use Rattle.read_lines.specs.Lines.{up_to}
use Rattle.read_bytes.proofs.Answers.{not_both, same_value, same_place, came}
use Rattle.read_bytes.proofs.Later.{moved, later}
use Rattle.read_bytes.proofs.Places.{Reach}
use Rattle.read_lines.proofs.Loops.{up_enough}
use Rattle.read_lines.proofs.LinesLater.{up_later}
use Rattle.read_readings.proofs.Turns.{every, Passed, passed_none, passed_one}

-- A reader of entries: `E s p` is the entry of the text s at the place p.
pub record Entry {A : Type 0} (E : List ℕ → ℕ → Read A) : Type 0 where
  pub after_text : (u t : List ℕ) (i : ℕ) → E (u ++ t) (length u + i) ≡ later (length u) (E t i)
  pub before_text : (r x : List ℕ) (p : ℕ) {a : A} {q : ℕ} → E r p ≡ got a q → E (r ++ x) p ≡ got a q
  pub ahead : (r : List ℕ) (p : ℕ) {a : A} {q : ℕ} → E r p ≡ got a q → Reach r (p + 1) q

-- The text is read to its end.
pub record Whole {A : Type 0} (E : List ℕ → ℕ → Read A) (r : List ℕ) : Type 0 where
  pub entries : List A
  pub place : ℕ
  pub reads : every (E r) r ≡ got entries place

-- Texts each of which is read to its end, with the entries of each.
pub data AllRead {A : Type 0} (E : List ℕ → ℕ → Read A) : List (List ℕ) → List (List A) → Type 0 where
  no_text : AllRead E [] []
  text_read : {r : List ℕ} {u : List A} {q : ℕ} {rs : List (List ℕ)} {us : List (List A)} → every (E r) r ≡ got u q → AllRead E rs us → AllRead E (r ∷ rs) (u ∷ us)

module _ {A : Type 0} (E : List ℕ → ℕ → Read A) (y : Entry E) where
  -- An answer that comes after the entries u and after d bytes.
  abbrev pub after : List A → ℕ → Read (List A) → Read (List A)
  after u d = moved (λ v. u ++ v) d

  module _ (r x : List ℕ) where
    -- The loop over the whole stands at p and has read the entries t.
    abbrev Past : List A → ℕ → Type 0
    Past t p = Passed (E (r ++ x)) (r ++ x) t p

    -- it stands where r ends
    stops : {t u : List A} {p q : ℕ} → p ≤ length r → length r ≤ p → Past t p → got t p ≡ got u q → (q ≡ length r) × Past u (length r)
    stops {t} {u} {p} h k z e =
        let i : p ≡ length r = omega arith in
        (omega (arith, same_place e), subst (λ v. Past v (length r)) (same_value e) (subst (Past t) i z))

    -- it comes there entry by entry
    passes : (n : ℕ) (t : List A) (p : ℕ) {u : List A} {q : ℕ} → p ≤ length r → length r ≤ p + n → Past t p
        → up_to (E r) (length r) n t p ≡ got u q → (q ≡ length r) × Past u (length r)
    unfolding up_to
    passes zero t p h k z e = stops h (omega arith) z e
    passes (suc n) t p {u} {q} h k z e = go (ltb p (length r)) refl (λ t' p' i j w f. passes n t' p' i j w f)
      where
        go : (b : Bool) → ltb p (length r) ≡ b
            → ((t' : List A) (p' : ℕ) → p' ≤ length r → length r ≤ p' + n → Past t' p'
            → up_to (E r) (length r) n t' p' ≡ got u q → (q ≡ length r) × Past u (length r))
            → (q ≡ length r) × Past u (length r)
        go true b rest =
            let l = length-append r x in
            let d = came (E r p) (λ a v. up_to (E r) (length r) n (t ++ (a ∷ [])) v) (rw b at e) in
            let w = y.ahead r p d.first in
            let one = passed_one (E (r ++ x)) (r ++ x) z (omega (arith, ltb-true p (length r) b)) (y.before_text r x p d.first)
            (record { ahead = w.ahead; inside = omega (arith, w.inside) }) in
            rest (t ++ (d.value ∷ [])) d.place w.inside (omega (arith, w.ahead)) one d.then
        go false b rest = stops h (ltb-false p (length r) b) z (rw b at e)

    -- What follows an accepted text is read as by itself.
    pub every_cut : (u : List A) (q : ℕ) → every (E r) r ≡ got u q → every (E (r ++ x)) (r ++ x) ≡ after u (length r) (every (E x) x)
    every_cut u q e =
        let l = length-append r x in
        let z = (passes (length r) [] 0 (omega arith) (omega arith) (passed_none (E (r ++ x)) (r ++ x)) e).1 in
        let here : length r + 0 ≡ length r = omega arith in
        let joint : every (E (r ++ x)) (r ++ x) ≡ up_to (E (r ++ x)) (length r + length x) z.left (u ++ []) (length r + 0) = rw (here, append-nil u, ← l) z.same in
        let follows = up_later (length r) (E (r ++ x)) (E x) (y.after_text r x) u (length x) z.left [] 0 in
        let enough = up_enough (E x) (length x) (λ p m v f. (y.ahead x p f).ahead) z.left (length x) [] 0 (omega (arith, z.enough)) (omega arith) in
        joint ∙ follows ∙ ap (after u (length r)) enough

  -- An accepted text is read up to its end.
  pub every_end : (r : List ℕ) (u : List A) (q : ℕ) → every (E r) r ≡ got u q → q ≡ length r
  every_end r u q e = (passes r [] (length r) [] 0 (omega arith) (omega arith) (passed_none (E (r ++ [])) (r ++ [])) e).0

  -- All the entries of accepted texts, in one text.
  pub every_joined : {rs : List (List ℕ)} {us : List (List A)} → AllRead E rs us → every (E (flatten rs)) (flatten rs) ≡ got (flatten us) (length (flatten rs))
  unfolding up_to flatten
  every_joined no_text = refl
  every_joined (text_read {r} {u} {q} {rs} e more) = every_cut r (flatten rs) u q e ∙ rw (every_joined more, length-append r (flatten rs))

  -- Where a text is read to its end, and with another after it too, so is the other.
  rest_read : (r x : List ℕ) → Whole E r → Whole E (r ++ x) → Whole E x
  rest_read r x w v = go (every (E x) x) refl
    where
      go : (R : Read (List A)) → every (E x) x ≡ R → Whole E x
      go (got u q) e = record { entries = u; place = q; reads = e }
      go (refused n p) e = absurd (not_both (sym v.reads ∙ every_cut r x w.entries w.place w.reads ∙ ap (after w.entries (length r)) e))

  -- A text in parts, after a text: where it is read to its end after each of the parts, so is each part.
  pub parts_read : (r : List ℕ) (parts : List (List ℕ)) → Whole E r → ((n : ℕ) → n ≤ length parts → Whole E (r ++ flatten (take n parts))) → (us : List (List A)) × AllRead E parts us
  unfolding flatten
  parts_read r [] w f = ([], no_text)
  parts_read r (x ∷ parts) w f =
      let v : Whole E (r ++ x) = subst (λ l. Whole E (r ++ l)) (append-nil x) (f 1 (omega arith)) in
      let z = rest_read r x w v in
      let more = parts_read (r ++ x) parts v (λ n h. subst (Whole E) (sym (append_assoc r x (flatten (take n parts)))) (f (suc n) (omega arith))) in
      (z.entries ∷ more.0, text_read z.reads more.1)
