-- The events that are read keep the order, and are all of the dump.
-- Assumes nothing. N is how many signals there are, W the window, d the dump, p a place in it.
use mathlib.Core.Path.{◌≡◌, refl, sym, ◌∙◌, subst}
use mathlib.Core.Bool.{Bool, true, false, true≢false, ◌&&◌, and-eq-true_iff}
use mathlib.Core.List.{List, [], ◌∷◌}
use Prim.Native.Nat.{ℕ, zero, suc, ◌+◌, ◌-◌, ◌<◌, ◌≤◌}
use native.Mathlib.Omega.{arith}
use borrow.Author.Tests.{ltb-true, ltb-false, leb-true}
use lib.Dec.{leb, ltb, eqb}
use lib.ListN.{length}
use Rattle.read_bytes.specs.Read.{and_then}
use Rattle.read_bytes.specs.Read.Read.{got, refused}
use Rattle.read_bytes.specs.Bytes.{bytes, byte, peek, pick, one_of, starts}
use Rattle.read_bytes.proofs.Answers.{not_both, same_value, same_place, through, came}
use Rattle.read_lines.specs.Lines.{keyed_at, ranged_line}
use Rattle.read_lines.proofs.KeyedLines.{ranged_past}
use Rattle.read_lines.proofs.ValueFirst.{keyed_is}
use Rattle.spec_dump.specs.DumpTexts.{Event, time, sign, id_byte}
use Rattle.spec_dump.specs.DumpLines.{one_of_texts, this_line, timescale_line, var_lines, head_end, head_lines, sign_said, is_sign_line, sign_line, time_line, asked, event_at, time_after, signal_after, events_from, events}
use Rattle.spec_dump.specs.EventOrder.{Next, Follow}
use Rattle.spec_dump.proofs.Signs.{said_sign}

-- An event as it was read at p: it may follow, and the next place is ahead.
pub record EventRead (W N : ℕ) (d : List ℕ) (u k p : ℕ) (e : Event) (q : ℕ) : Type 0 where
  pub next : Next W N u k e
  pub ahead : p < q
  pub inside : q ≤ length d

module _ {W N : ℕ} {d : List ℕ} (u k p : ℕ) {e : Event} {q : ℕ} where
  -- A time.
  time_read : asked N u k ≡ false → time_line W d u p ≡ got e q → EventRead W N d u k p e q
  unfolding time_line
  time_read a h =
      let c = came (ranged_line d p (bytes "#") 22 13 0 (W - 1)) (λ t r. pick (ltb u t) (λ _. got (time t) r) (refused 22 p)) h in
      let w = ranged_past d p (bytes "#") 22 13 0 (W - 1) c.first in
      let t = through (ltb u c.value) (time c.value) c.place 22 p c.then in
      let l = ltb-true u c.value t.0 in
      let n : Next W N u k (time c.value) = record { given = a; later = l; inside = omega (arith, w.2) } in
      record { next = subst (Next W N u k) t.1 n; ahead = omega (arith, w.0.ahead, t.2); inside = omega (arith, w.0.inside, t.2) }

  -- A sign.
  sign_read : (hi : ℕ) → hi ≤ N → (asked N u k ≡ true → hi ≡ suc k) → sign_line d k hi p ≡ got e q → EventRead W N d u k p e q
  unfolding sign_line is_sign_line
  sign_read hi l one h =
      let long = leb (p + 3) (length d) in
      let said = one_of (peek d p) (bytes "01xz") in
      let from = leb (id_byte k) (peek d (p + 1)) in
      let to = ltb (peek d (p + 1)) (id_byte hi) in
      let v = sign (peek d (p + 1) - 33) (sign_said (peek d p)) in
      let t = through (is_sign_line d k hi p) v (p + 3) 22 p h in
      let a = (and-eq-true_iff (long && said && from && to) (eqb (peek d (p + 2)) (byte "\n"))).0 t.0 in
      let b = (and-eq-true_iff (long && said && from) to).0 a.0 in
      let c = (and-eq-true_iff (long && said) from).0 b.0 in
      let f = (and-eq-true_iff long said).0 c.0 in
      let i = leb-true (id_byte k) (peek d (p + 1)) c.1 in
      let j = ltb-true (peek d (p + 1)) (id_byte hi) b.1 in
      let n : Next W N u k v = record { order = omega arith; declared = omega arith; next = λ z. let o = one z in omega arith; known = said_sign (peek d p) f.1 } in
      let m = leb-true (p + 3) (length d) f.0 in
      record { next = subst (Next W N u k) t.1 n; ahead = omega (arith, t.2); inside = omega (arith, t.2) }

  -- Any event.
  event_read : event_at W N d u k p ≡ got e q → EventRead W N d u k p e q
  unfolding event_at asked
  event_read h = go (asked N u k) refl (starts d p (bytes "#")) refl
    where
      go : (b : Bool) → asked N u k ≡ b → (c : Bool) → starts d p (bytes "#") ≡ c → EventRead W N d u k p e q
      go true a c s = let l = ltb-true k N ((and-eq-true_iff (eqb u 0) (ltb k N)).0 a).1 in sign_read (suc k) l (λ z. refl) (rw a at h)
      go false a true s = time_read a (rw (a, s) at h)
      go false a false s = sign_read N (omega arith) (λ z. absurd (true≢false (sym z ∙ a))) (rw (a, s) at h)

-- At most n events keep the order and reach the dump's end, if they are enough.
abbrev AllRead : ℕ → ℕ → List ℕ → ℕ → Type 0
AllRead W N d n = (u k p : ℕ) (es : List Event) (q : ℕ) → p ≤ length d → length d < p + n → events_from W N d n u k p ≡ got es q → Follow W N u k es × (q ≡ length d)

module _ (W N : ℕ) (d : List ℕ) where
  -- One event more,
  one_more : (n : ℕ) → AllRead W N d n → (u k p : ℕ) (es : List Event) (q : ℕ) → length d < p + suc n
      → and_then (event_at W N d u k p) (λ e r. and_then (events_from W N d n (time_after u e) (signal_after e) r) (λ fs o. got (e ∷ fs) o)) ≡ got es q → Follow W N u k es × (q ≡ length d)
  unfolding Follow
  one_more n all u k p es q l h =
      let a = came (event_at W N d u k p) (λ e r. and_then (events_from W N d n (time_after u e) (signal_after e) r) (λ fs o. got (e ∷ fs) o)) h in
      let e = a.value in
      let b = came (events_from W N d n (time_after u e) (signal_after e) a.place) (λ fs o. got (e ∷ fs) o) a.then in
      let r = event_read u k p a.first in
      let w = all (time_after u e) (signal_after e) a.place b.value b.place r.inside (omega (arith, r.ahead)) b.first in
      let f : Follow W N u k (e ∷ b.value) = (r.next, w.0) in
      (subst (Follow W N u k) (same_value b.then) f, sym (same_place b.then) ∙ w.1)

  -- or none.
  step_read : (n : ℕ) → AllRead W N d n → AllRead W N d (suc n)
  unfolding events_from Follow
  step_read n all u k p es q i l h = go (ltb p (length d)) refl (asked N u k) refl
    where
      go : (b : Bool) → ltb p (length d) ≡ b → (c : Bool) → asked N u k ≡ c → Follow W N u k es × (q ≡ length d)
      go true s c t = one_more n all u k p es q l (rw s at h)
      go false s true t = one_more n all u k p es q l (rw (s, t) at h)
      go false s false t =
          let g : got [] p ≡ got es q = rw (s, t) at h in
          (subst (Follow W N u k) (same_value g) t, omega (arith, ltb-false p (length d) s, same_place g))

  from_read : (n : ℕ) → AllRead W N d n
  from_read zero u k p es q i l h = absurd (omega arith)
  from_read (suc n) u k p es q i l h = step_read n (from_read n) u k p es q i l h

-- A text that was read ends inside the dump.
text_inside : (d : List ℕ) (p q : ℕ) (ws : List (List ℕ)) {x r : ℕ} → one_of_texts d p q ws ≡ got x r → r ≤ length d
unfolding one_of_texts
text_inside d p q [] h = absurd (not_both (sym h))
text_inside d p q (w ∷ ws) {x} {r} h = go (keyed_at d q w) refl (text_inside d p q ws)
  where
    go : (b : Bool) → keyed_at d q w ≡ b → (one_of_texts d p q ws ≡ got x r → r ≤ length d) → r ≤ length d
    go true k m = let g : got 0 (q + length w) ≡ got x r = rw k at h in omega (arith, (keyed_is d q w k).0, same_place g)
    go false k m = m (rw k at h)

module _ (names : List (List ℕ)) (d : List ℕ) where
  -- And so do the lines up to `#0`.
  head_inside : {x r : ℕ} → head_lines names d ≡ got x r → r ≤ length d
  unfolding head_lines head_end
  head_inside h =
      let a = came (timescale_line d 0) _ h in
      let b = came (this_line d a.place (bytes "$scope module sheet $end\n")) _ a.then in
      let c = came (var_lines names d (length names) 0 b.place) _ b.then in
      let e = came (this_line d c.place (bytes "$upscope $end\n")) _ c.then in
      let f = came (this_line d e.place (bytes "$enddefinitions $end\n")) _ e.then in
      text_inside d f.place f.place (bytes "#0\n" ∷ []) f.then

  -- A dump's events.
  pub events_follow : (W : ℕ) {es : List Event} {q : ℕ} → events names W d ≡ got es q → Follow W (length names) 0 0 es × (q ≡ length d)
  unfolding events
  events_follow W {es} {q} h =
      let a = came (head_lines names d) (λ _ p. events_from W (length names) d (suc (length d)) 0 0 p) h in
      from_read W (length names) d (suc (length d)) 0 0 a.place es q (head_inside a.first) (omega arith) a.then
