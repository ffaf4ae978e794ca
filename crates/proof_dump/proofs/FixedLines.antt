-- The lines of a dump that are one text, and that of the timescale, which is one of several: each is read exactly if it stands there, and else refused with 22.
-- Assumes nothing. d is the dump, p the line's place.
use mathlib.Core.Path.{◌≡◌, refl, sym, ap, ◌∙◌}
use mathlib.Core.Bool.{Bool, true, false, true≢false, not, ◌&&◌, ◌||◌, and-eq-true_iff}
use mathlib.Core.List.Memᴰ
use mathlib.Core.List.{List, [], ◌∷◌, ◌++◌, append_assoc, Memᴰ}
use mathlib.Core.Logic.{◌⊎◌, inl, inr}
use Prim.Native.Nat.{ℕ, ◌+◌}
use native.Mathlib.Omega.{arith}
use borrow.Author.Tests.{eq-eqb}
use lib.Dec.{eqb}
use lib.ListN.{length, length-append}
use Rattle.spec_tilco.specs.Lists.{All}
use Rattle.spec_tilco.proofs.Lists.{all_at}
use Rattle.read_bytes.specs.Read.{Read, and_then}
use Rattle.read_bytes.specs.Read.Read.{got, refused}
use Rattle.read_bytes.specs.Bytes.{bytes, byte, starts, InLine}
use Rattle.read_lines.specs.Lines.{keyed_at}
use Rattle.read_lines.proofs.ValueFirst.{keyed_is, keyed_by}
use Rattle.spec_grammar.specs.Lines.{LineAt, after}
use Rattle.spec_grammar.proofs.Standing.{starts_head, starts_tail}
use Rattle.spec_grammar.proofs.Lines.{in_line_by, in_line_then}
use Rattle.write_bytes.proofs.Standing.{Standing, starts_one, one_starts, stands_first, stands_rest, stands_then}
use Rattle.spec_dump.specs.DumpLines.{one_of_texts, this_line, scales, units, timescale_line}
use Rattle.proof_dump.specs.DumpCases.{amounts, unit_names, scale_line}

-- ---- a line, and its text with the LF

module _ {d : List ℕ} {p : ℕ} where
  pub stands_line : (l : List ℕ) → InLine l → Standing d p (l ++ bytes "\n") → LineAt d p l
  stands_line l i h =
      let r = stands_rest l (bytes "\n") h in
      record { stands = (stands_first l (bytes "\n") h).bytes; in_line_lem = i; inside = omega (arith, r.inside); ends = sym (starts_one d (p + length l) (byte "\n") r.bytes) }

  pub line_stands : (l : List ℕ) → LineAt d p l → Standing d p (l ++ bytes "\n")
  line_stands l a =
      stands_then l (bytes "\n") (record { bytes = a.stands; inside = omega (arith, a.inside) })
      (record { bytes = one_starts d (p + length l) (byte "\n") (sym a.ends); inside = omega (arith, a.inside) })

  pub keyed_stands : (w : List ℕ) → keyed_at d p w ≡ true → Standing d p w
  keyed_stands w e = let k = keyed_is d p w e in record { bytes = k.1; inside = k.0 }

  pub stands_keyed : (w : List ℕ) → Standing d p w → keyed_at d p w ≡ true
  stands_keyed w h = sym (keyed_by d p w h.inside) ∙ h.bytes

-- The place after a line is that after its text.
pub after_text : (p : ℕ) (l : List ℕ) → p + length (l ++ bytes "\n") ≡ after p l
after_text p l = omega (arith, length-append l (bytes "\n"))

-- ---- one of several texts

-- Two texts differ at a place that both have.
abbrev apart : List ℕ → List ℕ → Bool
apart [] w = false
apart (x ∷ v) [] = false
apart (x ∷ v) (y ∷ w) = not (eqb x y) || apart v w

-- Each differs so from every later one.
abbrev apart_from_lem : List ℕ → List (List ℕ) → Bool
apart_from_lem v [] = true
apart_from_lem v (w ∷ ws) = apart v w && apart_from_lem v ws

abbrev all_apart : List (List ℕ) → Bool
all_apart [] = true
all_apart (w ∷ ws) = apart_from_lem w ws && all_apart ws

-- Such texts do not both stand at one place.
not_both_stand : (d : List ℕ) (q : ℕ) (v w : List ℕ) → apart v w ≡ true → starts d q v ≡ true → starts d q w ≡ true → ⊥
not_both_stand d q [] w a h k = true≢false (sym a)
not_both_stand d q (x ∷ v) [] a h k = true≢false (sym a)
not_both_stand d q (x ∷ v) (y ∷ w) a h k = go (eqb x y) refl (not_both_stand d (q + 1) v w)
  where
    go : (b : Bool) → eqb x y ≡ b → (apart v w ≡ true → starts d (q + 1) v ≡ true → starts d (q + 1) w ≡ true → ⊥) → ⊥
    go true e r = r (rw e at a) (starts_tail d q x v h) (starts_tail d q y w k)
    go false e r =
        let i = starts_head d q x v h in
        let j = starts_head d q y w k in
        true≢false (sym (eq-eqb x y (sym i ∙ j)) ∙ e)

apart_from : (v w : List ℕ) (ws : List (List ℕ)) → apart_from_lem v ws ≡ true → Memᴰ w ws → apart v w ≡ true
apart_from v w [] a m = absurd (Memᴰ.not-nil m)
apart_from v w (x ∷ ws) a m = go (Memᴰ.cases_cons m) (apart_from v w ws)
  where
    k : (apart v x ≡ true) × (apart_from_lem v ws ≡ true)
    k = (and-eq-true_iff (apart v x) (apart_from_lem v ws)).0 a

    go : (w ≡ x) ⊎ Memᴰ w ws → (apart_from_lem v ws ≡ true → Memᴰ w ws → apart v w ≡ true) → apart v w ≡ true
    go (inl e) r = rw e k.0
    go (inr n) r = r k.1 n

-- What is answered: one of them stands, or a refusal.
data TextIs (d : List ℕ) (p q : ℕ) (ws : List (List ℕ)) : Read ℕ → Type 0 where
  found : {w : List ℕ} → Memᴰ w ws → Standing d q w → TextIs d p q ws (got 0 (q + length w))
  other : TextIs d p q ws (refused 22 p)

module _ (d : List ℕ) (p q : ℕ) where
  text_is : (ws : List (List ℕ)) → TextIs d p q ws (one_of_texts d p q ws)
  unfolding one_of_texts
  text_is [] = other
  text_is (w ∷ ws) = go (keyed_at d q w) refl (text_is ws)
    where
      later : {R : Read ℕ} → TextIs d p q ws R → TextIs d p q (w ∷ ws) R
      later (found m h) = found (Memᴰ.tail m) h
      later other = other

      go : (b : Bool) → keyed_at d q w ≡ b → TextIs d p q ws (one_of_texts d p q ws) → TextIs d p q (w ∷ ws) (one_of_texts d p q (w ∷ ws))
      go true e r = rw e (found (Memᴰ.head refl) (keyed_stands w e))
      go false e r = rw e (later r)

  text_reads : (w : List ℕ) (ws : List (List ℕ)) → all_apart ws ≡ true → Memᴰ w ws → Standing d q w → one_of_texts d p q ws ≡ got 0 (q + length w)
  unfolding one_of_texts
  text_reads w [] a m h = absurd (Memᴰ.not-nil m)
  text_reads w (v ∷ ws) a m h = go (Memᴰ.cases_cons m) (text_reads w ws)
    where
      k : (apart_from_lem v ws ≡ true) × (all_apart ws ≡ true)
      k = (and-eq-true_iff (apart_from_lem v ws) (all_apart ws)).0 a

      on : (b : Bool) → keyed_at d q v ≡ b → Memᴰ w ws → (all_apart ws ≡ true → Memᴰ w ws → Standing d q w → one_of_texts d p q ws ≡ got 0 (q + length w)) → one_of_texts d p q (v ∷ ws) ≡ got 0 (q + length w)
      on true e n r = absurd (not_both_stand d q v w (apart_from v w ws k.0 n) (keyed_stands v e).bytes h.bytes)
      on false e n r = rw e (r k.1 n h)

      go : (w ≡ v) ⊎ Memᴰ w ws → (all_apart ws ≡ true → Memᴰ w ws → Standing d q w → one_of_texts d p q ws ≡ got 0 (q + length w)) → one_of_texts d p q (v ∷ ws) ≡ got 0 (q + length w)
      go (inl e) r = let g = stands_keyed w h in rw (← e, g)
      go (inr n) r = on (keyed_at d q v) refl n r

-- ---- a line that is one text

pub data FixedIs (d : List ℕ) (p : ℕ) (l : List ℕ) : Read ℕ → Type 0 where
  stands : LineAt d p l → FixedIs d p l (got 0 (after p l))
  other : FixedIs d p l (refused 22 p)

module _ (d : List ℕ) (p : ℕ) (l : List ℕ) where
  pub fixed_is : InLine l → FixedIs d p l (this_line d p (l ++ bytes "\n"))
  fixed_is i = go (text_is d p p ((l ++ bytes "\n") ∷ []))
    where
      go : {R : Read ℕ} → TextIs d p p ((l ++ bytes "\n") ∷ []) R → FixedIs d p l R
      go (found {w} m h) = let e = Memᴰ.eq_of_singleton m in rw (e, after_text p l) (stands (stands_line l i (rw e at h)))
      go other = other

  pub fixed_reads : LineAt d p l → this_line d p (l ++ bytes "\n") ≡ got 0 (after p l)
  fixed_reads a = text_reads d p p (l ++ bytes "\n") ((l ++ bytes "\n") ∷ []) refl (Memᴰ.head refl) (line_stands l a) ∙ ap (got 0) (after_text p l)

-- ---- the timescale

pub data ScaleIs (d : List ℕ) (p : ℕ) : Read ℕ → Type 0 where
  stands : {n u : List ℕ} → Memᴰ n amounts → Memᴰ u unit_names → LineAt d p (scale_line n u) → ScaleIs d p (got 0 (after p (scale_line n u)))
  other : ScaleIs d p (refused 22 p)

-- An amount and a unit have no LF.
in_scale : {n u : List ℕ} → Memᴰ n amounts → Memᴰ u unit_names → InLine (scale_line n u)
in_scale {n} {u} a b =
    let i = all_at InLine amounts (in_line_by (bytes "1") refl, (in_line_by (bytes "10") refl, (in_line_by (bytes "100") refl, tt))) n a in
    let w : All InLine unit_names =
    (in_line_by (bytes "s") refl, (in_line_by (bytes "ms") refl, (in_line_by (bytes "us") refl, (in_line_by (bytes "ns") refl, (in_line_by (bytes "ps") refl, (in_line_by (bytes "fs") refl, tt))))))
    in
    let j = all_at InLine unit_names w u b in
    in_line_then (bytes "$timescale ") (n ++ (bytes " " ++ (u ++ bytes " $end"))) (in_line_by (bytes "$timescale ") refl)
    (in_line_then n (bytes " " ++ (u ++ bytes " $end")) i
    (in_line_then (bytes " ") (u ++ bytes " $end") (in_line_by (bytes " ") refl) (in_line_then u (bytes " $end") j (in_line_by (bytes " $end") refl))))

-- The line's text, as it is read.
scale_text : (n u : List ℕ) → bytes "$timescale " ++ ((n ++ bytes " ") ++ (u ++ bytes " $end\n")) ≡ scale_line n u ++ bytes "\n"
scale_text n u = simp append_assoc

module _ (d : List ℕ) (p : ℕ) where
  abbrev units_from : ℕ → ℕ → Read ℕ
  units_from z r = one_of_texts d p r units

  abbrev scales_from : ℕ → ℕ → Read ℕ
  scales_from z q = and_then (one_of_texts d p q scales) units_from

  scale_units : {n : List ℕ} → Memᴰ n amounts → {q : ℕ} → q ≡ p + 11 → Standing d p (bytes "$timescale ") → Standing d q (n ++ bytes " ") → {R : Read ℕ} → TextIs d p (q + length (n ++ bytes " ")) units R → ScaleIs d p R
  scale_units {n} a {q} e f g (found {w} m h) =
      let c = Memᴰ.of_map (λ u. u ++ bytes " $end\n") unit_names m in
      let u = c.0 in
      let i : Standing d (q + length (n ++ bytes " ")) (u ++ bytes " $end\n") = rw c.2 h in
      let r = stands_then (n ++ bytes " ") (u ++ bytes " $end\n") g i in
      let t = stands_then (bytes "$timescale ") ((n ++ bytes " ") ++ (u ++ bytes " $end\n")) f (rw e at r) in
      let l = stands_line (scale_line n u) (in_scale a c.1) (rw scale_text at t) in
      let z : q + length (n ++ bytes " ") + length w ≡ after p (scale_line n u) =
      omega (arith, ap length c.2, ap length (scale_text n u), after_text p (scale_line n u), length-append (n ++ bytes " ") (u ++ bytes " $end\n")) in
      rw z (stands a c.1 l)
  scale_units a e f g other = other

  pub scale_is : ScaleIs d p (timescale_line d p)
  unfolding timescale_line
  scale_is = first (text_is d p p (bytes "$timescale " ∷ []))
    where
      second : {q : ℕ} → q ≡ p + 11 → Standing d p (bytes "$timescale ") → {R : Read ℕ} → TextIs d p q scales R → ScaleIs d p (and_then R units_from)
      second {q} e f (found {w} m h) =
          let c = Memᴰ.of_map (λ n. n ++ bytes " ") amounts m in
          rw (← c.2) (scale_units c.1 e f (rw c.2 h) (text_is d p (q + length (c.0 ++ bytes " ")) units))
      second e f other = other

      first : {R : Read ℕ} → TextIs d p p (bytes "$timescale " ∷ []) R → ScaleIs d p (and_then R scales_from)
      first (found {w} m h) = let e = Memᴰ.eq_of_singleton m in rw e (second refl (rw e at h) (text_is d p (p + 11) scales))
      first other = other

  pub scale_reads : {n u : List ℕ} → Memᴰ n amounts → Memᴰ u unit_names → LineAt d p (scale_line n u) → timescale_line d p ≡ got 0 (after p (scale_line n u))
  unfolding timescale_line
  scale_reads {n} {u} a b l =
      let t = rw (← scale_text n u) at (line_stands (scale_line n u) l) in
      let r = stands_rest (bytes "$timescale ") ((n ++ bytes " ") ++ (u ++ bytes " $end\n")) t in
      let x = text_reads d p p (bytes "$timescale ") (bytes "$timescale " ∷ []) refl (Memᴰ.head refl) (stands_first (bytes "$timescale ") ((n ++ bytes " ") ++ (u ++ bytes " $end\n")) t) in
      let y = text_reads d p (p + 11) (n ++ bytes " ") scales refl (Memᴰ.map (λ n. n ++ bytes " ") a) (stands_first (n ++ bytes " ") (u ++ bytes " $end\n") r) in
      let q = p + 11 + length (n ++ bytes " ") in
      let z = text_reads d p q (u ++ bytes " $end\n") units refl (Memᴰ.map (λ u. u ++ bytes " $end\n") b) (stands_rest (n ++ bytes " ") (u ++ bytes " $end\n") r) in
      let e : q + length (u ++ bytes " $end\n") ≡ after p (scale_line n u) = omega (arith, ap length (scale_text n u), after_text p (scale_line n u), length-append (n ++ bytes " ") (u ++ bytes " $end\n")) in
      rw (x, y, z, e)
