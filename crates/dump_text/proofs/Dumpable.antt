-- What a table that can be dumped has: the row of each signal, and a word for each tick of the window. Assumes nothing.
use mathlib.Core.List.{List}
use Prim.Native.Nat.{ℕ, ◌+◌, ◌*◌, ◌<◌, ◌≤◌}
use native.Mathlib.Nat.{mul-le-mul_right}
use native.Mathlib.Omega.{arith}
use Rattle.spec_tilco.specs.Table.{words}
use Rattle.table_words.specs.WordTicks.{HasRow}
use Rattle.dump_text.specs.TableTexts.{CanDump, word_ticks}
use Rattle.dump_text.proofs.WordsLeft.{WordEnd, word_end}

module _ {k W n : ℕ} {T : List ℕ} (d : CanDump k W n T) where
  pub row_there : {x : ℕ} → x < k → HasRow n T x
  row_there {x} h = let m : 2 * (x + 1) * n ≤ 2 * k * n = mul-le-mul_right n (omega arith) in omega (arith, d.rows)

  pub tick_there : {t : ℕ} → t < W → t < n * 64
  unfolding words
  tick_there h = omega (arith, d.words_are)

  -- Word q has ticks of the window.
  pub word_there : {q : ℕ} → q < n → WordEnd W q (64 * q + word_ticks W q)
  word_there {q} h = let e = d.words_are in word_end W q (rw e at h)
