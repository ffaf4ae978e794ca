-- The line of a signal in a dump: it is read, or refused with 12 or 22, exactly in its case.
-- Assumes nothing. `names` are the declared names, d is the dump, x the signal, p the line's place.
use mathlib.Core.Path.{◌≡◌, refl, sym, ap, subst, ◌∙◌}
use mathlib.Core.Bool.{Bool, true, false, ◌&&◌, and-eq-true_iff}
use mathlib.Core.List.{List, [], ◌∷◌, ◌++◌, Memᴰ}
use Prim.Native.Nat.{ℕ, ◌+◌, ◌-◌, ◌<◌, ◌≤◌}
use native.Mathlib.Omega.{arith}
use borrow.Author.Tests.{eqb-true, eq-eqb, ne_eqb, ltb-true, ltb-false, lt-ltb, leb-true, le-leb}
use lib.Dec.{eqb, ltb, leb}
use lib.ListN.{length, get_or, take, drop, length-append, length-drop, take-append-drop}
use lib.Seq.{length-take-le}
use Rattle.read_bytes.specs.Read.{Read, and_then}
use Rattle.read_bytes.specs.Read.Read.{got, refused}
use Rattle.read_bytes.specs.Bytes.{bytes, pick, starts, InLine}
use Rattle.read_bytes.proofs.Answers.{same_place, not_both}
use Rattle.read_names.specs.Spellings.{find_name}
use Rattle.read_names.proofs.Names.{Differ, find_is, find_in}
use Rattle.read_lines.specs.Lines.{line_end, keyed_at}
use Rattle.read_lines.proofs.KeyedLines as keyed-lines
use Rattle.read_lines.proofs.ValueFirst.{keyed_is}
use Rattle.spec_grammar.specs.Lines.{LineAt, after}
use Rattle.spec_grammar.proofs.Standing.{stand_same}
use Rattle.spec_grammar.proofs.Lines.{in_line_by, in_line_then, starts_parts, value_at_lem, KeyedIs, line_is, keyed_reads}
use Rattle.write_bytes.proofs.Standing.{stands_cut}
use Rattle.write_readings.proofs.ReadableNames.{find_back}
use Rattle.spec_dump.specs.DumpTexts.{id_byte, var_key}
use Rattle.spec_dump.specs.DumpLines.{var_form, var_name, named_var, var_line}
use Rattle.proof_dump.specs.DumpCases.{signal_line}
use Rattle.proof_dump.proofs.FixedLines.{stands_keyed}

-- What stands before the name.
key_long : (x : ℕ) → length (var_key x) ≡ 14
unfolding var_key
key_long x = refl

in_key : (x : ℕ) → InLine (var_key x)
unfolding var_key
in_key x = in_line_then (bytes "$var wire 1 ") (id_byte x ∷ bytes " ") (in_line_by (bytes "$var wire 1 ") refl) (λ e. omega arith, in_line_by (bytes " ") refl)

-- The place after the line is that after its LF.
after_signal : (p x : ℕ) (w : List ℕ) → p + 14 + length w + 5 + 1 ≡ after p (signal_line x w)
after_signal p x w = omega (arith, key_long x, length-append (var_key x) (w ++ bytes " $end"), length-append w (bytes " $end"))

-- ---- the line's form

-- A line with a key, by the place of its LF.
record Keyed (d : List ℕ) (p : ℕ) (key : List ℕ) : Type 0 where
  value : List ℕ
  line : LineAt d p (key ++ value)
  ends : line_end d (p + length key) ≡ p + length key + length value

keyed : (d : List ℕ) (p : ℕ) (key : List ℕ) → InLine key → starts d p key ≡ true → line_end d (p + length key) < length d → Keyed d p key
keyed d p key i a l = go (line_is d p key 22 i) (sym (keyed-lines.line_is d p key 22 (line_end d (p + length key)) a refl l))
  where
    go : {R : Read ℕ} → KeyedIs d p key 22 R → R ≡ got (p + length key) (line_end d (p + length key)) → Keyed d p key
    go (KeyedIs.keyed v b) e = record { value = v; line = b; ends = sym (same_place e) }
    go (KeyedIs.unkeyed n) e = absurd (not_both (sym e))

-- A text that ends in another one.
ends_in : (d : List ℕ) (u : ℕ) (v t : List ℕ) → starts d u v ≡ true → length t ≤ length v → starts d (u + length v - length t) t ≡ true → v ≡ take (length v - length t) v ++ t
ends_in d u v t h l k =
    let n = length v - length t in
    let e = take-append-drop n v in
    let w = starts_parts d u (take n v) (drop n v) (rw e h) in
    let i : length (take n v) ≡ n = length-take-le n v (omega arith) in
    let j : u + length (take n v) ≡ u + length v - length t = omega arith in
    let same = stand_same d (u + length v - length t) (drop n v) t (rw j at w.1) k (omega (arith, length-drop n v)) in
    sym e ∙ ap (λ r. take n v ++ r) same

data FormIs (d : List ℕ) (x p : ℕ) : Read ℕ → Type 0 where
  formed : (w : List ℕ) → LineAt d p (signal_line x w) → FormIs d x p (got (p + 14) (p + 14 + length w + 5))
  other : FormIs d x p (refused 22 p)

module _ (d : List ℕ) (x p : ℕ) where
  -- A line in its form: where its parts stand.
  module _ (w : List ℕ) (a : LineAt d p (signal_line x w)) where
    value : LineAt d (p + 14) (w ++ bytes " $end")
    value = rw (key_long x) at (value_at_lem (var_key x) (w ++ bytes " $end") a)

    parts : (starts d (p + 14) w ≡ true) × (starts d (p + 14 + length w) (bytes " $end") ≡ true)
    parts = starts_parts d (p + 14) w (bytes " $end") value.stands

    name_there : var_name d (p + 14) (p + 14 + length w + 5) ≡ w
    unfolding var_name
    name_there =
        let n : p + 14 + length w + 5 - 5 - (p + 14) ≡ length w = omega arith in
        rw n (stands_cut d (p + 14) w (record { bytes = parts.0; inside = omega (arith, value.inside, length-append w (bytes " $end")) }))

    form_reads : var_form d x p ≡ got (p + 14) (p + 14 + length w + 5)
    unfolding var_form
    form_reads =
        let r = keyed-lines.placed d p (var_key x) 22 (keyed_reads d p (var_key x) 22 (in_key x) (w ++ bytes " $end") a) in
        let l = length-append w (bytes " $end") in
        let o = key_long x in
        let e : line_end d (p + 14) ≡ p + 14 + length w + 5 = rw o at (sym r.ends) ∙ omega arith in
        let n : p + 14 + length w + 5 - 5 ≡ p + 14 + length w = omega arith in
        let k = stands_keyed (var_key x) (record { bytes = r.keyed; inside = omega (arith, value.inside) }) in
        rw (k, e, lt-ltb (p + 14 + length w + 5) (length d) (omega (arith, value.inside)), le-leb (p + 19) (p + 14 + length w + 5) (omega arith), n, parts.1)

  form_is : FormIs d x p (var_form d x p)
  unfolding var_form
  form_is = go (has_key && ends && long && closed) refl
    where
      has_key : Bool
      has_key = keyed_at d p (var_key x)

      ends : Bool
      ends = ltb (line_end d (p + 14)) (length d)

      long : Bool
      long = leb (p + 19) (line_end d (p + 14))

      closed : Bool
      closed = starts d (line_end d (p + 14) - 5) (bytes " $end")

      go : (b : Bool) → has_key && ends && long && closed ≡ b → FormIs d x p (pick b (λ _. got (p + 14) (line_end d (p + 14))) (refused 22 p))
      go true t =
          let a = (and-eq-true_iff (has_key && ends && long) closed).0 t in
          let b = (and-eq-true_iff (has_key && ends) long).0 a.0 in
          let c = (and-eq-true_iff has_key ends).0 b.0 in
          let o = key_long x in
          let k = keyed d p (var_key x) (in_key x) (keyed_is d p (var_key x) c.0).1 (rw o (ltb-true (line_end d (p + 14)) (length d) c.1)) in
          let v = k.value in
          let e : line_end d (p + 14) ≡ p + 14 + length v = rw o at k.ends in
          let f = leb-true (p + 19) (line_end d (p + 14)) b.1 in
          let u = rw o at (value_at_lem (var_key x) v k.line) in
          let s = ends_in d (p + 14) v (bytes " $end") u.stands (omega arith) (rw e at a.1) in
          let w = take (length v - 5) v in
          let z : line_end d (p + 14) ≡ p + 14 + length w + 5 = omega (arith, length-take-le (length v - 5) v (omega arith)) in
          rw z (formed w (subst (λ r. LineAt d p (var_key x ++ r)) s k.line))
      go false t = other

-- ---- its name

pub data VarIs (names : List (List ℕ)) (d : List ℕ) (x p : ℕ) : Read ℕ → Type 0 where
  declared : LineAt d p (signal_line x (get_or names x [])) → VarIs names d x p (got x (after p (signal_line x (get_or names x []))))
  unknown : {w : List ℕ} → LineAt d p (signal_line x w) → (Memᴰ w names → ⊥) → VarIs names d x p (refused 12 (p + length (var_key x)))
  other : VarIs names d x p (refused 22 p)

module _ (names : List (List ℕ)) (d : List ℕ) (x p : ℕ) (small : x < length names) where
  -- What is answered of a line in its form.
  name_reads : (w : List ℕ) → LineAt d p (signal_line x w) → var_line names d x p ≡ named_var (length names) x p (p + 14) (p + 14 + length w + 5) (find_name w names)
  unfolding var_line
  name_reads w a = rw (form_reads d x p w a, name_there d x p w a)

  name_is : (w : List ℕ) → LineAt d p (signal_line x w) → VarIs names d x p (named_var (length names) x p (p + 14) (p + 14 + length w + 5) (find_name w names))
  unfolding named_var
  name_is w a = go (eqb (find_name w names) x) refl (ltb (find_name w names) (length names)) refl
    where
      f : ℕ
      f = find_name w names

      go : (b : Bool) → eqb f x ≡ b → (c : Bool) → ltb f (length names) ≡ c → VarIs names d x p (named_var (length names) x p (p + 14) (p + 14 + length w + 5) f)
      go true i c j =
          let e = eqb-true f x i in
          let n : w ≡ get_or names x [] = sym (find_is w names (omega arith)) ∙ ap (λ y. get_or names y []) e in
          rw (i, after_signal p x w, n) (declared (rw n at a))
      go false i true j = rw (i, j) other
      go false i false j =
          let k = ltb-false f (length names) j in
          let o = key_long x in
          rw (i, j, ← o) (unknown a (λ m. (let l = (find_in w names).1 m in omega arith)))

  pub var_is : VarIs names d x p (var_line names d x p)
  unfolding var_line
  var_is = go (form_is d x p)
    where
      go : {R : Read ℕ} → FormIs d x p R → VarIs names d x p (and_then R (λ v e. named_var (length names) x p v e (find_name (var_name d v e) names)))
      go (formed w a) = rw (name_there d x p w a) (name_is w a)
      go other = other

  pub unknown_reads : (w : List ℕ) → LineAt d p (signal_line x w) → (Memᴰ w names → ⊥) → var_line names d x p ≡ refused 12 (p + length (var_key x))
  unfolding named_var
  unknown_reads w a n = go (ltb (find_name w names) (length names)) refl
    where
      f : ℕ
      f = find_name w names

      go : (b : Bool) → ltb f (length names) ≡ b → var_line names d x p ≡ refused 12 (p + length (var_key x))
      go true i = absurd (n ((find_in w names).0 (ltb-true f (length names) i)))
      go false i =
          let l = ltb-false f (length names) i in
          let o = key_long x in
          name_reads w a ∙ rw (ne_eqb f x (λ e. omega arith), i, o)

  pub declared_reads : Differ names → LineAt d p (signal_line x (get_or names x [])) → var_line names d x p ≡ got x (after p (signal_line x (get_or names x [])))
  unfolding named_var
  declared_reads differ a =
      let w = get_or names x [] in
      let f = find_back names differ x small in
      name_reads w a ∙ rw (f, eq-eqb x x refl, after_signal p x w)
