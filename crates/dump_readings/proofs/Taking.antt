-- Taking a dump's events in a loop: what is still owed at a place, and how it starts, goes on and ends.
-- Assumes nothing. W is the window, N how many signals there are, d the dump; u is the time so far, k the first signal that may follow, p the place;
-- `signs` are the signs so far, the buffer m holds what is written before `used`.
use mathlib.Core.Path.{◌≡◌, refl, ap, ◌∙◌}
use mathlib.Core.Bool.{Bool, true, false, ◌||◌}
use mathlib.Core.List.{List, [], ◌∷◌}
use Prim.Native.Nat.{ℕ, zero, suc, ◌+◌, ◌-◌, ◌*◌, ◌<◌, ◌≤◌}
use native.Mathlib.Numerals.{add-one}
use native.Mathlib.Omega.{arith}
use lib.Dec.{ltb}
use lib.ListN.{length, set, length-set, replicate, length-replicate, get_or-replicate}
use Rattle.std.specs.Prelude.{Result, Ok, Err}
use Rattle.spec_refusals.specs.Numbers.{fault_number, Refusal}
use Rattle.spec_limits.specs.Limits.{most_signals}
use Rattle.read_bytes.specs.Read.{Read, and_then}
use Rattle.read_bytes.specs.Read.Read.{got, refused}
use Rattle.read_bytes.specs.Bytes.{byte}
use Rattle.read_bytes.proofs.Answers.{answered}
use Rattle.write_bytes.specs.Writes.{Wrote}
use Rattle.write_bytes.proofs.Writing.{wrote_like, wrote_then}
use Rattle.write_readings.specs.EntryTexts.{entries_text}
use Rattle.write_readings.proofs.WholeTexts.{entries_append}
use Rattle.spec_dump.specs.DumpTexts.{Event, time, sign}
use Rattle.spec_dump.specs.DumpLines.{asked, event_at, time_after, signal_after, events_from}
use Rattle.spec_dump.specs.DumpSigns.{sign_at_lem, dump_sign, sign_readings}
use Rattle.spec_dump.specs.Dumps.{readings_text}
use Rattle.spec_dump.proofs.SignReadings.{readings_as}
use Rattle.dump_lines.specs.declared.events.Event.{Event as Said}
use Rattle.dump_lines.specs.EventSays.{event_of}
use Rattle.dump_lines.proofs.EventPlaces.{EventGot, event_got}
use Rattle.dump_readings.specs.HeldSigns.{held, held_text, most_tick_bytes}
use Rattle.dump_readings.specs.TakenEvents.{EventsTaken}
use Rattle.dump_readings.specs.TakenEvents.EventsTaken.{all_taken, refused_at}
use Rattle.dump_readings.proofs.SignsHeld.{signs_after, to_come, none_come, time_comes, sign_comes}

-- The text of the readings that are still to come.
abbrev text_to_come : List (List ℕ) → ℕ → ℕ → List ℕ → List Event → List ℕ
text_to_come names W u signs es = entries_text false names (to_come (length names) W u signs es)

-- What is read is what an event of the code says.
pub event_as : {R : Read Event} {e x : Said} {q : ℕ} → got (event_of e) q ≡ R → e ≡ x → R ≡ got (event_of x) q
event_as {q = q} h g = answered (λ e. got (event_of e) q) h g

-- Of events that are read to R, what is still owed: the text of their readings, or the refusal.
pub data Owed (R : Read (List Event)) (names : List (List ℕ)) (W u : ℕ) (signs : List ℕ) (used : ℕ) (m m' : List ℕ) : Result ℕ Refusal → Type 0 where
  left : {es : List Event} {q v : ℕ} → R ≡ got es q → Wrote (text_to_come names W u signs es) used m m' v → Owed R names W u signs used m m' (Ok v)
  refused_there : {r : Refusal} → R ≡ refused (fault_number r.fault) r.place → Owed R names W u signs used m m' (Err r)

-- Whatever gives what is owed here has taken all events.
pub record Takes (W N : ℕ) (names : List (List ℕ)) (d : List ℕ) (p : ℕ) (m signs m₁ : List ℕ) (used u k at : ℕ) : Type 0 where
  pub fuel : ℕ
  pub enough : length d < at + fuel
  pub inside : at ≤ length d
  pub signed : length signs ≡ most_signals
  pub few : N ≤ most_signals
  pub follow : k ≤ N
  pub low : u < W
  pub room : used ≤ most_tick_bytes * u
  pub gives : {m' : List ℕ} {r : Result ℕ Refusal} → Owed (events_from W N d fuel u k at) names W u signs used m₁ m' r → EventsTaken (events_from W N d (suc (length d)) 0 0 p) names W m m' r

-- Is there a line more?
abbrev pub more : ℕ → List ℕ → ℕ → ℕ → ℕ → Bool
more N d u k p = ltb p (length d) || asked N u k

module _ (W N : ℕ) (d : List ℕ) (u k p : ℕ) where
  -- With no line more there is no event more.
  events_end : (n : ℕ) → more N d u k p ≡ false → events_from W N d n u k p ≡ got [] p
  unfolding events_from
  events_end zero h = refl
  events_end (suc n) h = rw h

  -- Otherwise one is read, and those after it.
  events_next : (n : ℕ) → 0 < n → more N d u k p ≡ true
      → events_from W N d n u k p ≡ and_then (event_at W N d u k p) (λ e q. and_then (events_from W N d (n - 1) (time_after u e) (signal_after e) q) (λ es r. got (e ∷ es) r))
  unfolding events_from
  events_next zero l h = absurd (omega arith)
  events_next (suc n) l h = let e : suc n - 1 ≡ n = omega arith in rw (h, e)

-- Where the text to come after an event is written, so is the text to come before it.
record TextFirst (names : List (List ℕ)) (W : ℕ) (e : Event) (u : ℕ) (signs : List ℕ) (used : ℕ) (m signs₁ : List ℕ) (used₁ : ℕ) (m₁ : List ℕ) : Type 0 where
  pub first : (es : List Event) {m' : List ℕ} {v : ℕ} → Wrote (text_to_come names W (time_after u e) signs₁ es) used₁ m₁ m' v → Wrote (text_to_come names W u signs (e ∷ es)) used m m' v

-- What is owed after an event gives what is owed before it.
event_owed : {names : List (List ℕ)} {W u : ℕ} {signs : List ℕ} {used : ℕ} {m signs₁ : List ℕ} {used₁ : ℕ} {m₁ m' : List ℕ} {R S : Read (List Event)} {r : Result ℕ Refusal} (e : Event)
    → S ≡ and_then R (λ es q. got (e ∷ es) q) → TextFirst names W e u signs used m signs₁ used₁ m₁ → Owed R names W (time_after u e) signs₁ used₁ m₁ m' r → Owed S names W u signs used m m' r
event_owed e g t (left {es} {q} h w) = left {es = e ∷ es} {q = q} (g ∙ rw h) (t.first es w)
event_owed e g t (refused_there {r} h) = refused_there {r = r} (g ∙ rw h)

-- A sign is put among those held; before a time those held are written.
sign_first : {names : List (List ℕ)} {W u : ℕ} {signs : List ℕ} {used : ℕ} {m : List ℕ} (x b : ℕ) → x < length signs → TextFirst names W (sign x b) u signs used m (set signs x b) used m
sign_first {names} {W} {u} {signs} x b h = record { first = λ es w. wrote_like (ap (entries_text false names) (sign_comes (length names) W u signs x b es h)) w }

time_first : {names : List (List ℕ)} {W u : ℕ} {signs : List ℕ} {used : ℕ} {m m₁ : List ℕ} {v t : ℕ} → u ≤ t → t ≤ W → Wrote (held_text names signs u t) used m m₁ v
    → TextFirst names W (time t) u signs used m signs v m₁
time_first {names} {W} {u} {signs} {t = t} a b w = record {
  first = λ es x. wrote_like (
      ap (entries_text false names) (time_comes (length names) W u signs t es a b)
      ∙ entries_append false names (sign_readings (held signs) (length names) u (t - u)) (to_come (length names) W t signs es)
      ) (wrote_then w x);
}

-- At the start all is owed, and no sign is settled.
all_owed : {names : List (List ℕ)} {W : ℕ} {signs m m' : List ℕ} {R : Read (List Event)} {r : Result ℕ Refusal} → signs ≡ replicate most_signals (byte "x") → length names ≤ most_signals
    → Owed R names W 0 signs 0 m m' r → EventsTaken R names W m m' r
unfolding readings_text
all_owed {names} {W} {signs} e few (left {es} g w) =
    let all : W - 0 ≡ W = omega arith in
    let same = readings_as (dump_sign es) (signs_after signs es) (length names) 0 W (λ x l t a b. ap (λ (z : ℕ). sign_at_lem x t z es) (rw (e, get_or-replicate most_signals x (byte "x") 0 (omega arith)))) in
    all_taken g (wrote_like (ap (entries_text false names) same) (rw all at w))
all_owed e few (refused_there g) = refused_at g

-- An event that may follow leaves the time in the window, and the next signal is one or none.
after_event : {W N : ℕ} {d : List ℕ} {u k p : ℕ} (e : Event) {q : ℕ} → u < W → EventGot W N d u k p e q → (time_after u e < W) × (signal_after e ≤ N)
after_event (time t) l f = (f.fits.ticks, omega arith)
after_event (sign x b) l f = (l, omega (arith, f.fits.high))

-- ---- the loop

module _ {W N : ℕ} {names : List (List ℕ)} {d : List ℕ} {p : ℕ} {m : List ℕ} where
  pub takes_start : {signs : List ℕ} {used : ℕ} → used ≡ 0 → signs ≡ replicate most_signals (byte "x") → length names ≡ N → N ≤ most_signals → 1 ≤ W → p ≤ length d → Takes W N names d p m signs m used 0 0 p
  takes_start z e same few w h = rw z (record {
    fuel = suc (length d);
    enough = omega arith;
    inside = h;
    signed = ap length e ∙ length-replicate most_signals (byte "x");
    few = few;
    follow = omega arith;
    low = w;
    room = omega arith;
    gives = λ o. all_owed e (omega arith) o;
  })

  module _ {signs m₁ : List ℕ} {used u k at : ℕ} (z : Takes W N names d p m signs m₁ used u k at) where
    -- At the end the signs are held up to the window's end.
    pub takes_end : {m₂ : List ℕ} {v : ℕ} → more N d u k at ≡ false → Wrote (held_text names signs u W) used m₁ m₂ v → EventsTaken (events_from W N d (suc (length d)) 0 0 p) names W m m₂ (Ok v)
    takes_end h w = z.gives (left (events_end W N d u k at z.fuel h) (wrote_like (ap (entries_text false names) (none_come (length names) W u signs)) w))

    -- What an event's numbers are good for: its sign has a place, its time is later, and the place after it is ahead.
    pub sign_inside : {x b q : ℕ} → event_at W N d u k at ≡ got (sign x b) q → x < length signs
    sign_inside g = omega (arith, (event_got W N d u k at (omega (arith, z.low)) g).fits.high, z.signed, z.few)

    pub time_later : {t q : ℕ} → event_at W N d u k at ≡ got (time t) q → (u ≤ t) × (t ≤ W)
    time_later g = let w = event_got W N d u k at (omega (arith, z.low)) g in (omega (arith, w.fits.rises), omega (arith, w.fits.ticks))

    pub goes_ahead : {e : Event} {q : ℕ} → event_at W N d u k at ≡ got e q → length d - q < length d - at
    goes_ahead g = let w = event_got W N d u k at (omega (arith, z.low)) g in omega (arith, w.ahead, w.inside)

    module _ (h : more N d u k at ≡ true) where
      -- A refusal is handed on.
      pub takes_refusal : {r : Refusal} → event_at W N d u k at ≡ refused (fault_number r.fault) r.place → EventsTaken (events_from W N d (suc (length d)) 0 0 p) names W m m₁ (Err r)
      takes_refusal {r} e = z.gives (refused_there {r = r} (events_next W N d u k at z.fuel (omega arith) h ∙ rw e))

      -- An event more.
      takes_event : {signs₁ m₂ : List ℕ} {used₁ : ℕ} {e : Event} {q : ℕ} → event_at W N d u k at ≡ got e q → length signs₁ ≡ most_signals → used₁ ≤ most_tick_bytes * time_after u e
          → TextFirst names W e u signs used m₁ signs₁ used₁ m₂ → Takes W N names d p m signs₁ m₂ used₁ (time_after u e) (signal_after e) q
      takes_event {e = e} g s r t =
          let w = event_got W N d u k at (omega arith) g in
          let f = after_event e z.low w in
          record {
            fuel = z.fuel - 1;
            enough = omega (arith, w.ahead);
            inside = w.inside;
            signed = s;
            few = z.few;
            follow = f.1;
            low = f.0;
            room = r;
            gives = λ o. z.gives (event_owed e (events_next W N d u k at z.fuel (omega arith) h ∙ rw g) t o);
          }

      -- A sign.
      pub takes_sign : {x b q : ℕ} → event_at W N d u k at ≡ got (sign x b) q → Takes W N names d p m (set signs x b) m₁ used u (x + 1) q
      takes_sign {x} {b} g = rw add-one (takes_event g (length-set signs x b ∙ z.signed) z.room (sign_first x b (sign_inside g)))

      -- A time.
      pub takes_time : {t q v : ℕ} {m₂ : List ℕ} → event_at W N d u k at ≡ got (time t) q → Wrote (held_text names signs u t) used m₁ m₂ v → v ≤ most_tick_bytes * t → Takes W N names d p m signs m₂ v t 0 q
      takes_time g x r = takes_event g z.signed r (time_first (time_later g).0 (time_later g).1 x)

-- In the lent buffer, under its own names, and the answer under its own.
pub taken_there : {R : Read (List Event)} {names : List (List ℕ)} {W : ℕ} {m m₁ n n₁ : List ℕ} {r x : Result ℕ Refusal} → n ≡ m → n₁ ≡ m₁ → x ≡ r → EventsTaken R names W m m₁ r → EventsTaken R names W n n₁ x
taken_there e f g t = rw (e, f, g) t
