-- What stands before a text changes only the places: lines, and loops over them.
-- Assumes nothing of lines; of a loop, that its parts are so.
use mathlib.Core.Path.{◌≡◌, refl}
use mathlib.Core.Bool.{Bool, true, false, ◌&&◌}
use mathlib.Core.List.{List, [], ◌∷◌, ◌++◌, append_assoc}
use Prim.Native.Nat.{ℕ, zero, suc, ◌+◌}
use native.Mathlib.Omega.{arith}
use borrow.Author.Tests.{ltb-true, ltb-false, lt-ltb, le-ltb}
use lib.Dec.{ltb, eqb}
use lib.ListN.{length, length-append}
use Rattle.std.specs.Prelude.{Option, Some, None}
use Rattle.read_bytes.specs.Read.{Read, and_then}
use Rattle.read_bytes.specs.Read.Read.{got, refused}
use Rattle.read_bytes.specs.Bytes.{between, starts}
use Rattle.read_names.specs.Spellings.{name_at}
use Rattle.read_bytes.specs.Numbers.{number}
use Rattle.read_lines.specs.Lines.{in_line, line_end, line, whole, whole_number, whole_name, number_line, ranged_line, name_line, up_to}
use Rattle.read_bytes.proofs.Later.{moved, later, later_some, pick_map, eqb_later, starts_later, run_end_later, number_later}
use Rattle.read_names.proofs.NamesLater.{later_word, name_at_later}

-- An answer whose place is d later, and so is its value, which is a place too.
abbrev pub later_place : ℕ → Read ℕ → Read ℕ
later_place d = moved (λ v. d + v) d

ltb_later : (d a b : ℕ) → ltb (d + a) (d + b) ≡ ltb a b
ltb_later d a b = go (ltb a b) refl
  where
    go : (c : Bool) → ltb a b ≡ c → ltb (d + a) (d + b) ≡ c
    go true e = lt-ltb (d + a) (d + b) (omega (arith, ltb-true a b e))
    go false e = le-ltb (d + a) (d + b) (omega (arith, ltb-false a b e))

-- What goes on from a moved answer.
pub then_moved : {A B C D : Type 0} (f : A → C) (g : B → D) (d : ℕ) (R : Read A) (K : C → ℕ → Read D) (J : A → ℕ → Read B)
    → ((a : A) (q : ℕ) → K (f a) (d + q) ≡ moved g d (J a q)) → and_then (moved f d R) K ≡ moved g d (and_then R J)
then_moved f g d (got a q) K J h = h a q
then_moved f g d (refused n p) K J h = refl

module _ (d : ℕ) where
  whole_later : (f : ℕ → ℕ) (x q e n p : ℕ) → whole (f x) (d + q) (d + e) n (d + p) ≡ moved f d (whole x q e n p)
  whole_later f x q e n p =
      let i : d + e + 1 ≡ d + (e + 1) = omega arith in
      rw (i, eqb_later d q e) (pick_map (moved f d) (eqb q e) (got x (e + 1)) (refused n p))

  whole_number_later : (p form e : ℕ) (x : Option (ℕ × ℕ)) → whole_number (d + p) form (d + e) (later_some d x) ≡ later d (whole_number p form e x)
  whole_number_later p form e (Some (x, q)) = whole_later (λ v. v) x q e form p
  whole_number_later p form e None = refl

  whole_name_later : (v content e : ℕ) (w : Option (ℕ × Option ℕ)) → whole_name (d + v) content (d + e) (later_word d w) ≡ later_place d (whole_name v content e w)
  whole_name_later v content e (Some (q, n)) = whole_later (λ y. d + y) v q e content v
  whole_name_later v content e None = refl

module _ (u t : List ℕ) (i : ℕ) (key : List ℕ) (form : ℕ) where
  -- a line's place of its value is later too
  pub line_later : line (u ++ t) (length u + i) key form ≡ later_place (length u) (line t i key form)
  unfolding line
  line_later =
      let n : length u + i + length key ≡ length u + (i + length key) = omega arith in
      rw (n, starts_later u t i key, run_end_later u t (i + length key) in_line, length-append u t, ltb_later (length u) (line_end t (i + length key)) (length t))
      (pick_map (later_place (length u)) (starts t i key && ltb (line_end t (i + length key)) (length t)) (got (i + length key) (line_end t (i + length key))) (refused form i))

  pub number_line_later : number_line (u ++ t) (length u + i) key form ≡ later (length u) (number_line t i key form)
  unfolding number_line
  number_line_later =
      rw line_later
      (then_moved (λ v. length u + v) (λ v. v) (length u) (line t i key form) _ _
      (λ v e. rw (number_later u t v) (whole_number_later (length u) i form e (number t v))))

  pub ranged_line_later : (content lo hi : ℕ) → ranged_line (u ++ t) (length u + i) key form content lo hi ≡ later (length u) (ranged_line t i key form content lo hi)
  unfolding ranged_line
  ranged_line_later content lo hi =
      let n : length u + i + length key ≡ length u + (i + length key) = omega arith in
      rw number_line_later
      (then_moved (λ x. x) (λ x. x) (length u) (number_line t i key form) _ _
      (λ x q. rw n (pick_map (later (length u)) (between lo hi x) (got x q) (refused content (i + length key)))))

  -- and so is a name's place
  pub name_line_later : (content : ℕ) → name_line (u ++ t) (length u + i) key form content ≡ later_place (length u) (name_line t i key form content)
  unfolding name_line
  name_line_later content =
      rw line_later
      (then_moved (λ v. length u + v) (λ v. length u + v) (length u) (line t i key form) _ _
      (λ v e. rw (name_at_later u t v) (whole_name_later (length u) v content e (name_at t v))))

-- Parts up to an end, after parts that were read before.
module _ {A : Type 0} (d : ℕ) (P J : ℕ → Read A) (part : (p : ℕ) → P (d + p) ≡ later d (J p)) (before : List A) where
  pub up_later : (end n : ℕ) (t : List A) (p : ℕ) → up_to P (d + end) n (before ++ t) (d + p) ≡ moved (λ x. before ++ x) d (up_to J end n t p)
  unfolding up_to
  up_later end zero t p = refl
  up_later end (suc n) t p =
      let e = then_moved (λ a. a) (λ x. before ++ x) d (J p) (λ a q. up_to P (d + end) n (before ++ t ++ (a ∷ [])) q) (λ a q. up_to J end n (t ++ (a ∷ [])) q)
      (λ a q. rw (append_assoc before t (a ∷ [])) (up_later end n (t ++ (a ∷ [])) q)) in
      rw (ltb_later d p end, part p, e)
      (pick_map (moved (λ x. before ++ x) d) (ltb p end) (and_then (J p) (λ a q. up_to J end n (t ++ (a ∷ [])) q)) (got t p))
