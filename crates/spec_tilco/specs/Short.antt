-- The shorter set of rules at which document 004 ends (section 5, "the final set"). It is not ours: the theorem `not_dropped` says why.
-- Assumes nothing.
use Rattle.std.specs.Prelude.{◌≡◌, true, false, ℕ, ◌<◌}
use mathlib.Core.List.{Memᴰ}
use Rattle.spec_tilco.specs.Inference.{not_of, gate, look, Program, node, mark, Mark, Marks, Shifted}

-- Truth goes down, falseness goes up, and a signal and its opposite give each other falseness.
pub data Short (P : Program) (W : ℕ) (S : Marks) : Mark → Type 0 where
  start : {m : Mark} → S m → Short P W S m
  top : {r t : ℕ} → Memᴰ r P.tops → t < W → Short P W S (mark r t true)
  and_left : {r a b t : ℕ} → node P r ≡ gate true a b → Short P W S (mark r t true) → Short P W S (mark a t true)
  and_right : {r a b t : ℕ} → node P r ≡ gate true a b → Short P W S (mark r t true) → Short P W S (mark b t true)
  and_off_left : {r a b t : ℕ} → node P r ≡ gate true a b → Short P W S (mark a t false) → Short P W S (mark r t false)
  and_off_right : {r a b t : ℕ} → node P r ≡ gate true a b → Short P W S (mark b t false) → Short P W S (mark r t false)
  or_right : {r a b t : ℕ} → node P r ≡ gate false a b → Short P W S (mark r t true) → Short P W S (mark a t false) → Short P W S (mark b t true)
  or_left : {r a b t : ℕ} → node P r ≡ gate false a b → Short P W S (mark r t true) → Short P W S (mark b t false) → Short P W S (mark a t true)
  or_off : {r a b t : ℕ} → node P r ≡ gate false a b → Short P W S (mark a t false) → Short P W S (mark b t false) → Short P W S (mark r t false)
  look_down : {r c k t s : ℕ} → node P r ≡ look k c → Shifted t k s → t < W → s < W → Short P W S (mark r t true) → Short P W S (mark c s true)
  look_up : {r c k t s : ℕ} → node P r ≡ look k c → Shifted t k s → t < W → s < W → Short P W S (mark c s false) → Short P W S (mark r t false)
  not_down : {r x t : ℕ} → node P r ≡ not_of x → Short P W S (mark r t true) → Short P W S (mark x t false)
  not_up : {r x t : ℕ} → node P r ≡ not_of x → Short P W S (mark x t true) → Short P W S (mark r t false)
