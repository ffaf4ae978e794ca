-- The lines of the signals, one after the other: what is left to read after some of them.
-- Assumes nothing.
use mathlib.Core.Path.{◌≡◌, sym, ap, ◌∙◌}
use mathlib.Core.List.{List}
use Prim.Native.Nat.{ℕ, suc, ◌+◌, ◌-◌, ◌<◌, ◌≤◌}
use native.Mathlib.Numerals.{add-one}
use native.Mathlib.Omega.{arith}
use lib.ListN.{length}
use Rattle.read_bytes.specs.Read.{Read}
use Rattle.read_bytes.specs.Read.Read.{got, refused}
use Rattle.read_index.specs.Index.{name_count, names_in}
use Rattle.read_bytes.proofs.Answers.{hand_on}
use Rattle.read_index.proofs.Places.{names_in_many}
use Rattle.read_lines.proofs.Stays.{Any, stays_got}
use Rattle.spec_dump.specs.DumpLines.{var_line, var_lines}
use Rattle.dump_lines.proofs.HeadPlaces.{var_stays}

-- After the lines of the first x of n signals, what is left to read from `at` on is what is to be read from p on.
pub record VarsTo (names : List (List ℕ)) (d : List ℕ) (n p x at : ℕ) : Type 0 where
  pub left : var_lines names d (n - x) x at ≡ var_lines names d n 0 p
  pub inside : at ≤ length d

pub vars_none : {names : List (List ℕ)} {d : List ℕ} {n p : ℕ} → p ≤ length d → VarsTo names d n p 0 p
vars_none {names} {d} {n} {p} h =
    let z : n - 0 ≡ n = omega arith in
    record { left = ap (λ k. var_lines names d k 0 p) z; inside = h }

module _ {names : List (List ℕ)} {d : List ℕ} {n p x at : ℕ} (h : VarsTo names d n p x at) where
  -- One is left.
  module _ (l : x < n) where
    one_left : var_lines names d (suc (n - suc x)) x at ≡ var_lines names d n 0 p
    one_left =
        let i : n - x ≡ suc (n - suc x) = omega arith in
        rw i at h.left

    pub vars_one : {y q : ℕ} → var_line names d x at ≡ got y q → VarsTo names d n p (x + 1) q
    unfolding var_lines
    vars_one e =
        record {
          left = rw add-one (rw e at one_left);
          inside = (stays_got Any (length d) (var_stays names d x at h.inside) e).1;
        }

    pub vars_off : {m k : ℕ} → var_line names d x at ≡ refused m k → refused m k ≡ var_lines names d n 0 p
    unfolding var_lines
    vars_off e = hand_on _ e ∙ one_left

  -- None is left.
  pub vars_all : x ≡ n → got n at ≡ var_lines names d n 0 p
  unfolding var_lines
  vars_all i =
      let z : n - x ≡ 0 = omega arith in
      ap (λ y. got y at) (sym i) ∙ (rw z at h.left)

-- The names of an index are as many as it has places.
pub vars_counted : (s T d : List ℕ) (q : ℕ) {R : Read ℕ} → R ≡ var_lines (names_in s T) d (name_count T) 0 q → R ≡ var_lines (names_in s T) d (length (names_in s T)) 0 q
vars_counted s T d q e = rw (names_in_many s T) e
