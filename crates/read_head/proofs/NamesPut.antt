-- Names put into the index: the places that it has, and what each answer of the readers of signals says.
-- Assumes nothing.
use mathlib.Core.Path.{◌≡◌, sym, ap, subst, ◌∙◌}
use mathlib.Core.List.{List, [], ◌∷◌, ◌++◌}
use Prim.Native.Nat.{ℕ, ◌+◌, ◌-◌, ◌<◌, ◌≤◌}
use native.Mathlib.Omega.{arith}
use lib.ListN.{length, take, drop, length-drop, drop_of_length-le}
use lib.Seq.{length-take-le}
use Rattle.read_bytes.specs.Read.Read.{got, refused}
use Rattle.spec_limits.specs.Limits.{most_signals}
use Rattle.read_bytes.specs.Bytes.{bytes}
use Rattle.read_names.specs.Spellings.{spelling_at}
use Rattle.read_index.specs.NameTexts.{NameText}
use Rattle.read_index.specs.Index.{slots, links, slot_of, put_name}
use Rattle.read_index.proofs.NameTexts.{name_text}
use Rattle.read_index.proofs.Slots.{slot_below}
use Rattle.read_index.proofs.Places.{first_part, put_long, places_more}
use Rattle.read_index.proofs.Putting.{no_names, one_more}
use Rattle.read_lines.specs.Lines.{name_line, in_turn}
use Rattle.read_lines.proofs.KeyedLines.{name_held}
use Rattle.read_lines.proofs.Loops.{turn_start, turn_next, turn_off, turn_end}
use Rattle.read_head.specs.SheetHead.{signal_line, first_places, NamesPut, SignalPut, NoNames}
use Rattle.read_head.proofs.Signals.{signal_line_lem}

module _ {s T : List ℕ} {n : ℕ} (k : NamesPut s T n) where
  -- So much of the index is in use.
  pub used_long : length (take (links + n) T) ≡ links + n
  used_long = length-take-le (links + n) T (omega (arith, k.room, k.few))

  -- There is a place for each name.
  pub places_long : length (first_places n T) ≡ n
  places_long = length-drop links (take (links + n) T) ∙ omega (arith, used_long)

  -- The places, as the part of the index that is lent.
  pub places_lent : take (links + n - links) (drop links T) ≡ first_places n T
  places_lent = first_part T n

-- At first there is no name.
pub none_put : (s : List ℕ) {T : List ℕ} → NoNames T → NamesPut s T 0
none_put s {T} e = record { room = e.room; few = omega arith; index = no_names s T e.room e.empty }

pub no_places : {s T : List ℕ} → NamesPut s T 0 → first_places 0 T ≡ []
no_places {T = T} k = let l : length (take (links + 0) T) ≤ links = omega (arith, used_long k) in drop_of_length-le (take (links + 0) T) l

-- A name more.
pub put_more : {s T T' : List ℕ} {n b : ℕ} (v : ℕ) → NamesPut s T n → n < most_signals → NameText (spelling_at s v) → b ≡ slot_of (spelling_at s v) → T' ≡ put_name T n v b
    → NamesPut s T' (n + 1) × (first_places (n + 1) T' ≡ first_places n T ++ (v ∷ []))
put_more {s} {T} {T'} {n} {b} v k h t e f =
    let l : b < slots = omega (arith, slot_below (spelling_at s v)) in
    rw f (record { room = put_long T n v b ∙ k.room; few = omega arith; index = one_more s T n v b k.room h k.index t e }, places_more T n v b k.room h l)

-- The name on a line is a name's text.
pub line_text_lem : (s : List ℕ) (p : ℕ) {v q : ℕ} → name_line s p (bytes "signal=") 2 4 ≡ got v q → NameText (spelling_at s v)
line_text_lem s p h =
    let d = name_held s p (bytes "signal=") 2 4 h in
    subst (λ (x : ℕ). NameText (spelling_at s x)) d.what.1 (name_text s d.value d.what.0)

-- ---- the lines of n signals from `at` on

-- i of them are read, up to p, and their names put.
pub record ReadTo (s T : List ℕ) (n at i p : ℕ) : Type 0 where
  pub same : in_turn (signal_line s) n [] at ≡ in_turn (signal_line s) (n - i) (first_places i T) p
  pub inside : p ≤ length s
  pub put : NamesPut s T i

module _ {s T : List ℕ} {n at : ℕ} where
  -- none are at first
  pub read_none : NamesPut s T 0 → at ≤ length s → ReadTo s T n at 0 at
  read_none k h = record {
    same = turn_start (signal_line s) n [] at ∙ ap (λ (t : List ℕ). in_turn (signal_line s) (n - 0) t at) (sym (no_places k));
    inside = h;
    put = k;
  }

  module _ {i p : ℕ} (k : ReadTo s T n at i p) where
    -- one more is read
    pub read_one : {T' : List ℕ} {v q : ℕ} → i < n → SignalPut s T T' i p v q → ReadTo s T' n at (i + 1) q
    read_one {T'} {v} {q} h w = record {
      same = k.same ∙ turn_next (signal_line s) n i (first_places i T) p h w.line ∙ ap (λ (t : List ℕ). in_turn (signal_line s) (n - (i + 1)) t q) (sym w.places);
      inside = (signal_line_lem s (first_places i T) p w.line).past.inside;
      put = w.put;
    }

    -- one is refused, and so are all
    pub read_off : {m x : ℕ} → i < n → signal_line s (first_places i T) p ≡ refused m x → in_turn (signal_line s) n [] at ≡ refused m x
    read_off h e = k.same ∙ turn_off (signal_line s) (n - i) (first_places i T) p (omega arith) e

    -- all are read
    pub read_all : i ≡ n → (in_turn (signal_line s) n [] at ≡ got (first_places n T) p) × NamesPut s T n
    read_all e =
        (k.same ∙ turn_end (signal_line s) (n - i) (first_places i T) p (omega arith) ∙ ap (λ (j : ℕ). got (first_places j T) p) e, subst (NamesPut s T) e k.put)
