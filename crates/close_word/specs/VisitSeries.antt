-- What visits to items one after another do: those of a word of the list, and of any of its words. Assumes nothing.
-- n is how many words a row has for each value, B the row codes, W the window, T the table and D the list before, T' and D' after. A number that tells
-- of a change is 0 if there is none.
use Rattle.std.specs.Prelude.{◌≡◌, List, ◌⊎◌, ℕ, ◌+◌, ◌*◌, ◌<◌, length, get_or}
use Rattle.spec_ticks.specs.Ticks.{Has}
use Rattle.spec_tilco.specs.Inference.{Program, Marks, ◌or◌}
use Rattle.spec_tilco.specs.Table.{Stands}
use Rattle.close_rules.specs.Codes.{Codes}
use Rattle.close_rules.specs.Effects.{Infers, Gathers}
use Rattle.table_words.specs.WordTicks.{Tells}
use Rattle.close_list.specs.Items.{per, SettledOffListTo, SettledOffList}

-- Bit k of word j of the list is set: an item of word q of ticks, of which this is the i-th word in the list.
pub record ItemAt (count n q i j k : ℕ) (D : List ℕ) : Type 0 where
  pub word : q < n
  pub column : i < per count
  pub place : j ≡ q * per count + i
  pub bit : k < 64
  pub on_list : Has (get_or D j 0) k

-- What a series of visits does. It infers marks; if F holds of the table and the list before, G does after; and if nothing changed, each word of the
-- list that was 0, or is among Z, is 0.
pub record VisitSeries (F G : List ℕ → List ℕ → Type 0) (n : ℕ) (P : Program) (W : ℕ) (Z : ℕ → Type 0) (T T' D D' : List ℕ) (changed : ℕ) : Type 0 where
  pub infers : Infers n P W T T'
  pub tells : Tells T T' changed
  pub empty : changed ≡ 0 → (j : ℕ) → (get_or D j 0 ≡ 0) ⊎ Z j → get_or D' j 0 ≡ 0
  pub rests : F T D → G T' D'

-- A series after which items off the list are settled, if they were before, for every program with these rows; the list keeps its length.
pub record WorksList (count : ℕ) (B : List ℕ) (W n : ℕ) (Z : ℕ → Type 0) (T T' D D' : List ℕ) : Type 0 where
  pub changed : ℕ
  pub long : length D' ≡ length D
  pub each : (P : Program) → Codes P count B → VisitSeries (SettledOffList count B W n) (SettledOffList count B W n) n P W Z T T' D D' changed

-- No word of the list, and one.
abbrev pub NoWord : ℕ → Type 0
NoWord j = ⊥

abbrev pub OneWord : ℕ → ℕ → Type 0
OneWord k j = j ≡ k

-- A series of visits to items of word j of the list: if nothing changed that word is smaller.
pub record TakesOff (count : ℕ) (B : List ℕ) (W n j : ℕ) (T T' D D' : List ℕ) : Type 0 where
  pub works : WorksList count B W n NoWord T T' D D'
  pub less : works.changed ≡ 0 → get_or D' j 0 < get_or D j 0

-- Every item that is not on the list is settled, but that looks may give the marks G, which are gathered.
abbrev pub SettledOffListBut : Marks → ℕ → List ℕ → ℕ → ℕ → List ℕ → List ℕ → Type 0
SettledOffListBut G count B W n T D = SettledOffListTo (◌or◌ (Stands n T) G) count B W n T D

-- A visit to a look at a bit of word j of the list: what it gives its child is gathered, G before and G' after.
pub record TakesOffLook (count : ℕ) (B : List ℕ) (W n j : ℕ) (G G' : Marks) (T T' D D' : List ℕ) : Type 0 where
  pub changed : ℕ
  pub long : length D' ≡ length D
  pub each : (P : Program) → Codes P count B
      → VisitSeries (SettledOffListBut G count B W n) (SettledOffListBut G' count B W n) n P W NoWord T T' D D' changed × Gathers P W (Stands n T) G G'
  pub less : changed ≡ 0 → get_or D' j 0 < get_or D j 0
