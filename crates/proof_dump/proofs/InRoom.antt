-- A text that is written where there is room for it: what an acceptance says, and what a refusal says.
-- Assumes nothing. t is the text, O the lent buffer before and O' after.
use mathlib.Core.Path.{◌≡◌, sym, ap, ◌∙◌}
use mathlib.Core.List.{List}
use Prim.Native.Nat.{ℕ, ◌<◌}
use native.Mathlib.Decide.{dec_lt}
use native.Mathlib.Omega.{arith}
use lib.ListN.{length, take, drop}
use lib.Seq.{take_at}
use Rattle.open_sheet.specs.Results.{accepted, refused}
use Rattle.open_table.proofs.Tables.{accepted_one, accepted_refused}
use Rattle.spec_operations.specs.TextAnswers.{Gives, length_of, left_of}
use Rattle.spec_dump.specs.Dumps.{with_room}
use Rattle.spec_dump.proofs.Rooms.{room_for, over_room}
use Rattle.proof_dump.specs.WriteCases.{TextIn}

-- There is no room: 20 at 0, and the buffer stays.
pub record NoRoom (t O O' : List ℕ) (n p : ℕ) : Type 0 where
  pub over : length O < length t
  pub number : n ≡ 20
  pub place : p ≡ 0
  pub stays : O' ≡ O

module _ {t O O' : List ℕ} where
  pub in_room : {n : ℕ} → Gives (with_room (length O) t) O O' (accepted n) → TextIn t O O' n
  in_room {n} g = go (dec_lt (length O) (length t))
    where
      go : Dec (length O < length t) → TextIn t O O' n
      go (yes l) = absurd (accepted_refused (g.answer ∙ ap length_of (over_room t (length O) l)))
      go (no l) =
          let e = room_for t (length O) (omega arith) in
          record { room = omega arith; answer = accepted_one (g.answer ∙ ap length_of e); buffer = g.leaves ∙ ap (λ R. left_of R O) e }

  pub no_room : {n p : ℕ} → Gives (with_room (length O) t) O O' (refused n p) → NoRoom t O O' n p
  no_room {n} {p} g = go (dec_lt (length O) (length t))
    where
      go : Dec (length O < length t) → NoRoom t O O' n p
      go (yes l) =
          let e = over_room t (length O) l in
          let f = g.answer ∙ ap length_of e in
          record { over = l; number = cc; place = cc; stays = g.leaves ∙ ap (λ R. left_of R O) e }
      go (no l) = absurd (accepted_refused (sym (g.answer ∙ ap length_of (room_for t (length O) (omega arith)))))

  -- The text is what the first bytes of the buffer are.
  pub first_bytes : {n : ℕ} → TextIn t O O' n → take n O' ≡ t
  first_bytes {n} x = rw x.buffer (take_at t (drop (length t) O) n (sym x.answer))
