-- Writes one after the other, and that their places can be counted.
-- Assumes nothing.
use mathlib.Core.Path.{◌≡◌, refl, sym, subst, ◌∙◌}
use mathlib.Core.List.{List, [], ◌∷◌, ◌++◌}
use Prim.Native.Nat.{ℕ, suc, ◌+◌, ◌≤◌}
use native.Mathlib.Nat.{add-zero, add-suc, suc-add}
use native.Mathlib.Omega.{arith}
use lib.ListN.{length, set, drop, length-append}
use lib.Seq.{sets, sets-eq, set_out}
use Rattle.write_bytes.specs.declared.Writer.{Writer}
use Rattle.write_bytes.specs.Writes.{Wrote, Counted}
use Rattle.write_bytes.specs.Writers.{Writes}

-- Two runs of stores are one.
pub sets_append : (m : List ℕ) (b : ℕ) (ws vs : List ℕ) → sets (sets m b ws) (b + length ws) vs ≡ sets m b (ws ++ vs)
sets_append m b [] vs = rw add-zero
sets_append m b (w ∷ ws) vs = rw (add-suc, ← suc-add) (sets_append (set m b w) (suc b) ws vs)

-- One entry is stored,
pub stored : {w b : ℕ} {m m₁ : List ℕ} → m₁ ≡ set m b w → Wrote (w ∷ []) b m m₁ (b + 1)
stored e = record { next = refl; holds = e }

-- or there is no room for it.
pub no_room : {w b : ℕ} {m m₁ : List ℕ} → length m ≤ b → m₁ ≡ m → Wrote (w ∷ []) b m m₁ (b + 1)
no_room {w} {b} {m} h e = stored (e ∙ sym (set_out m b w h))

-- Of what stands in a buffer: entries in another form, and one run after another.
pub wrote_like : {ws vs : List ℕ} {b : ℕ} {m m₁ : List ℕ} {u : ℕ} → ws ≡ vs → Wrote vs b m m₁ u → Wrote ws b m m₁ u
wrote_like {b = b} {m} {m₁} {u} e h = subst (λ (l : List ℕ). Wrote l b m m₁ u) (sym e) h

pub wrote_then : {ws vs : List ℕ} {b : ℕ} {m m₁ m₂ : List ℕ} {u v : ℕ} → Wrote ws b m m₁ u → Wrote vs u m₁ m₂ v → Wrote (ws ++ vs) b m m₂ v
wrote_then {ws} {vs} {b} {m} h k = record {
  next = omega (arith, length-append ws vs);
  holds = k.holds ∙ rw (h.holds, h.next) (sets_append m b ws vs);
}

-- Nothing is written.
pub nothing : {t : Writer} → Writes [] t t
nothing {t} = record { same = refl; wrote = record { next = sym (add-zero t.used); holds = refl } }

-- Entries in another form.
pub like : {ws vs : List ℕ} {t u : Writer} → ws ≡ vs → Writes vs t u → Writes ws t u
like e h = record { same = h.same; wrote = wrote_like e h.wrote }

-- One write after another is one write.
pub and_then_lem : {ws vs : List ℕ} {t u v : Writer} → Writes ws t u → Writes vs u v → Writes (ws ++ vs) t v
and_then_lem h k = record { same = k.same ∙ h.same; wrote = wrote_then h.wrote k.wrote }

-- What stands in the buffer m in the end, which the writer was lent, and how much was written.
pub all_written : {ws m m' : List ℕ} {t u : Writer} {r : ℕ} → Writes ws t u → t.out.now ≡ m → t.used ≡ 0 → m' ≡ u.out.now → r ≡ u.used → Wrote ws 0 m m' r
all_written h e z f g = rw (← e, ← z, f, g) h.wrote

-- A text written from the first place on, where there is room for it: the rest of the buffer stays.
pub in_front : {t O U : List ℕ} {u : ℕ} → Wrote t 0 O U u → length t ≤ length O → U ≡ t ++ drop (length t) O
in_front {t} {O} w h = let z : 0 + length t ≡ length t = omega arith in w.holds ∙ sets-eq t O 0 (omega arith) ∙ rw z

-- What can be counted can be in another form, from the first place on where nothing is written yet, its first part can be, and what follows that.
pub counted_like : {ws vs : List ℕ} {b : ℕ} → Counted b ws → ws ≡ vs → Counted b vs
counted_like {b = b} h e = subst (Counted b) e h

pub counted_start : {ws : List ℕ} {b : ℕ} → Counted 0 ws → b ≡ 0 → Counted b ws
counted_start h z = record { below = omega arith }

pub counted_first : {ws : List ℕ} (vs : List ℕ) {b : ℕ} → Counted b (ws ++ vs) → Counted b ws
counted_first {ws} vs h = record { below = omega (arith, length-append ws vs) }

pub counted_rest : {ws vs : List ℕ} {t u : Writer} → Counted t.used (ws ++ vs) → Writes ws t u → Counted u.used vs
counted_rest {ws} {vs} h k = record { below = omega (arith, length-append ws vs, k.wrote.next) }

-- What was written from the first place on goes on through the writer t: it can be counted, and is one text with it.
pub counted_after : {ws vs m m₁ : List ℕ} {u : ℕ} → Counted 0 (ws ++ vs) → Wrote ws 0 m m₁ u → Counted u vs
counted_after {ws} {vs} h k = record { below = omega (arith, length-append ws vs, k.next) }

pub written_after : {ws vs m m' : List ℕ} {t u : Writer} {r : ℕ} → Wrote ws 0 m t.out.now t.used → Writes vs t u → m' ≡ u.out.now → r ≡ u.used → Wrote (ws ++ vs) 0 m m' r
written_after a h f g = rw (f, g) (wrote_then a h.wrote)
