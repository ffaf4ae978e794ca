-- The user's three demands over the contracts of check, add and ask and over what settle prints, on texts and tables.
-- Assumes nothing that is not written in a statement. Each sentence stands above what says it.
use mathlib.Core.Path.{◌≡◌}
use mathlib.Core.Bool.{Bool, true, false, ◌||◌, ◌&&◌}
use mathlib.Core.List.{List, [], ◌∷◌, Memᴰ, Permᴰ}
use mathlib.Core.Logic.{◌↔◌, ◌⊎◌}
use Prim.Native.Nat.{ℕ, ◌+◌, ◌≤◌, ◌<◌}
use lib.IntN.{ℤ, pos, ◌+ℤ◌, ◌-ℤ◌}
use lib.ListN.{length, get_or}
use Rattle.read_bytes.specs.Bytes.{bytes}
use Rattle.spec_ticks.specs.Ticks.{Small}
use Rattle.spec_ticks.proofs.Tables.{empty_small}
use Rattle.spec_tilco.specs.Lists.{total}
use Rattle.spec_tilco.specs.Formula.{Formula, defining, Sheet}
use Rattle.spec_tilco.specs.Inference.{Mark, ◌or◌}
use Rattle.spec_tilco.specs.Lowering.{row_count_lem}
use Rattle.spec_tilco.specs.Meaning.{History, value, at_offset, Obeys}
use Rattle.spec_tilco.specs.Since.{KeptOver, Hides, Inside}
use Rattle.spec_tilco.specs.Table.{Standing, table_words, facts_of, ReadMarks, Leads, Answer, Contradiction, Asked}
use Rattle.spec_tilco.proofs.Values.{always_means, sometime_means}
use Rattle.spec_tilco.proofs.Since.{since_means, until_means, keep_unrolled}
use Rattle.read_sheet.specs.Sheet.{Contents, meant, sheet_text}
use Rattle.open_sheet.specs.Results.{Result, accepted, refused}
use Rattle.open_sheet.specs.SheetIn.{blank, names_in}
use Rattle.spec_operations.specs.Gain.{Gain, gain}
use Rattle.spec_operations.specs.Operations.{checked, Adds, Asks}
use Rattle.spec_operations.specs.Operations.Adds.{added}
use Rattle.list_settled.specs.Prints.{Prints, Settles}
use Rattle.list_settled.proofs.OneListing.{prints_one, settles_one}
use Rattle.proof_demands.specs.Refusals.{SheetAccepted, TakenUp, ReadingsAccepted, SheetRefused, AddRefused, AskRefused, SettleRefused, Unchanged}
use Rattle.proof_demands.specs.Runs.{FromBlank, new_in, valued, ReadIn, AgreesWith}
use Rattle.proof_demands.specs.Cuts.{CutInto, Given, RunCalls, InCalls}
use Rattle.proof_demands.specs.Shuffles.{Parted, InParts, SaidAlike}
use Rattle.proof_demands.specs.Listings.{line_of, Names, sign_under, shown}
use Rattle.spec_operations.proofs.Determined.{adds_one, asks_one}
use Rattle.proof_demands.proofs.Refusals.{sheet_in_lem, in_sheet_text, readings_in, taken_up, check_accepts, check_refusals, add_refusals, ask_accepts, ask_refusals, settle_refusals}
use Rattle.proof_demands.proofs.Answered.{check_some, add_some, add_accepts, ask_some, calls_some, run_some, prints_some, settles_some}
use Rattle.proof_demands.proofs.LastTable.{last_exactly, news_add_up, by_readings}
use Rattle.proof_demands.proofs.Cuts.{part_accepted, parts_as_one, parts_add_up}
use Rattle.proof_demands.proofs.Histories.{value_holds, no_contradiction, no_clash_told}
use Rattle.proof_demands.proofs.Parting.{in_parts}
use Rattle.proof_demands.proofs.Alike.{shuffled_alike, check_alike}
use Rattle.proof_demands.proofs.Shuffles.{said_alike}
use Rattle.proof_demands.proofs.Listings.{listing_value, listing_clash}

-- ---- demand 1

pub record Demand1 : Type 0 where
  -- "Every sheet, readings text and lent table gets an answer, and the call does its own checking": one, and no other. Nothing is asked of a text,
  -- and of a table that its words have 64 bits.
  pub check_answers : (s : List ℕ) → ((k : Contents) × SheetAccepted s k) ⊎ ((n : ℕ) × (p : ℕ) × SheetRefused s n p)
  pub add_answers : (s r T : List ℕ) → Small 64 T → (U : List ℕ) × (a : Result Gain) × Adds s r T U a
  pub add_no_other : (s r T U U' : List ℕ) (a a' : Result Gain) → Adds s r T U a → Adds s r T U' a' → (U ≡ U') × (a ≡ a')
  pub ask_answers : (s T : List ℕ) (x t : ℕ) → (a : Result Answer) × Asks s T x t a
  pub ask_no_other : (s T : List ℕ) (x t : ℕ) (a a' : Result Answer) → Asks s T x t a → Asks s T x t a' → a ≡ a'
  pub settle_answers : (s r T : List ℕ) → Small 64 T → (U : List ℕ) × (a : Result (List ℕ)) × Prints s r T U a
  pub settle_no_other : (s r T U U' : List ℕ) (a a' : Result (List ℕ)) → Prints s r T U a → Prints s r T U' a' → (U ≡ U') × (a ≡ a')
  pub program_prints : (s r : List ℕ) → (l : List ℕ) × Settles s r l
  pub program_no_other : (s r l l' : List ℕ) → Settles s r l → Settles s r l' → l ≡ l'
  -- "A refusal comes exactly in its listed case, gives its number and place, adds no facts and changes no mark in the table."
  pub check_refuses : (s : List ℕ) (n p : ℕ) → checked s ≡ refused n p ↔ SheetRefused s n p
  pub add_refuses : (s r T U : List ℕ) (n p : ℕ) → Adds s r T U (refused n p) ↔ (AddRefused s r T n p × Unchanged T U)
  pub ask_refuses : (s T : List ℕ) (x t n p : ℕ) → Asks s T x t (refused n p) ↔ AskRefused s T x t n p
  pub settle_refuses : (s r T U : List ℕ) (n p : ℕ) → Prints s r T U (refused n p) ↔ (SettleRefused s r T n p × Unchanged T U)
  -- And what is accepted is so exactly by 01's lines and limits; ask's answers are in demand 2.
  pub check_accepts : (s : List ℕ) (n : ℕ) → checked s ≡ accepted n ↔ ((k : Contents) × SheetAccepted s k × (n ≡ row_count_lem (meant k)))
  pub add_accepts : (s r T : List ℕ) → Small 64 T → ((U : List ℕ) × (g : Gain) × Adds s r T U (accepted g)) ↔ ((k : Contents) × (ms : List Mark) × TakenUp s T k × ReadingsAccepted s k r ms)

pub demand_1 : Demand1
demand_1 = record {
  check_answers = check_some;
  add_answers = add_some;
  add_no_other = λ s r T U U' a a' x y. adds_one x y;
  ask_answers = ask_some;
  ask_no_other = λ s T x t a a' y z. asks_one y z;
  settle_answers = prints_some;
  settle_no_other = λ s r T U U' a a' x y. prints_one x y;
  program_prints = settles_some;
  program_no_other = λ s r l l' x y. settles_one x y;
  check_refuses = λ s n p. check_refusals s;
  add_refuses = λ s r T U n p. add_refusals;
  ask_refuses = λ s T x t n p. ask_refusals;
  settle_refuses = λ s r T U n p. settle_refusals;
  check_accepts = λ s n. check_accepts s;
  add_accepts = add_accepts;
}

-- ---- demand 2

-- What the signs of time mean: @ at every whole number of the interval, ? at one, since and until by what was or will be a tick away, and so over k
-- ticks of the window: "A at some earlier tick and B at every tick between, or B at every earlier tick" (E2; 004, section 2.1).
pub record TimeMeans : Type 0 where
  pub always : (h : History) (f : Formula) (lo n : ℕ) (t : ℤ) → (value h (Formula.time true lo n f) t ≡ true) ↔ ((j : ℕ) → j ≤ n → value h f (at_offset t (lo + j)) ≡ true)
  pub sometime : (h : History) (f : Formula) (lo n : ℕ) (t : ℤ) → (value h (Formula.time false lo n f) t ≡ true) ↔ ((j : ℕ) × (j ≤ n) × (value h f (at_offset t (lo + j)) ≡ true))
  pub since : (h : History) (x : ℕ) (f g : Formula) (t : ℤ) → value h (defining true x f g) t ≡ true → h x t ≡ value h f (t -ℤ pos 1) || (value h g (t -ℤ pos 1) && h x (t -ℤ pos 1))
  pub until : (h : History) (x : ℕ) (f g : Formula) (t : ℤ) → value h (defining false x f g) t ≡ true → h x t ≡ value h f (t +ℤ pos 1) || (value h g (t +ℤ pos 1) && h x (t +ℤ pos 1))
  pub over_ticks : (s : Sheet) (h : History) → Obeys s h → (b : Bool) (x : ℕ) (f g : Formula) → Hides s b x f g → (t k : ℕ) → Inside b s.window t k
      → (h x (pos t) ≡ true) ↔ KeptOver b h x f g (pos t) k

-- The sheet, the table and the readings of an accepted add, and which marks stand after it.
pub record Led (s r T U : List ℕ) : Type 0 where
  pub contents : Contents
  pub marks : List Mark
  pub taken : TakenUp s T contents
  pub reads : ReadingsAccepted s contents r marks
  pub exactly : (m : Mark) → Standing (meant contents) U m ↔ Leads (meant contents) (◌or◌ (Standing (meant contents) T) (ReadMarks marks)) m

pub record Demand2 : Type 0 where
  -- "A rule means what the TILCO papers say, as the build paper condenses them": `value` and `Obeys` of tilco/specs/Meaning.antt, of which this is read back.
  pub rules_mean : TimeMeans
  -- "After an accepted call that adds readings, a mark stands in the table exactly if a finite chain of the published inference rules leads to it
  -- from the sheet, the readings and the marks already there."
  pub after_add : {s r T U : List ℕ} {g : Gain} → Adds s r T U (accepted g) → Led s r T U
  -- After calls on the empty table, one of which at least is accepted, from the sheet and all the readings.
  pub after_calls : {s : List ℕ} {k : Contents} {rs : List (List ℕ)} {U : List ℕ} {answers : List (Result Gain)} {r : List ℕ} {ms : List Mark} → FromBlank s k rs U answers
      → Memᴰ r rs → ReadingsAccepted s k r ms → (m : Mark) → Standing (meant k) U m ↔ Leads (meant k) (ReadIn s k rs) m
  -- "A question is answered from the marks."
  pub answered : (s T : List ℕ) (x t : ℕ) (a : Answer)
      → Asks s T x t (accepted a) ↔ ((k : Contents) × TakenUp s T k × (x < length k.places) × (t < k.window) × Asked (Standing (meant k) T) x t a)

pub demand_2 : Demand2
demand_2 = record {
  rules_mean = record { always = always_means; sometime = sometime_means; since = since_means; until = until_means; over_ticks = keep_unrolled };
  after_add = led;
  after_calls = λ x i y. last_exactly x i y;
  answered = λ s T x t a. ask_accepts;
}
  where
    led : {s r T U : List ℕ} {g : Gain} → Adds s r T U (accepted g) → Led s r T U
    led {s} {r} (added {k} {ms} o f A n c) = record { contents = k; marks = ms; taken = taken_up o; reads = readings_in s k r f; exactly = A.exactly }

-- ---- demand 3

-- The last table U of calls on the sheet's empty table, beside that of one call with the whole text R; and what the calls report.
pub record AsOneCall (s : List ℕ) (k : Contents) (R U : List ℕ) (answers : List (Result Gain)) : Type 0 where
  pub same : {U' : List ℕ} {a : Result Gain} → Adds s R (blank k) U' a → U ≡ U'
  pub adds_up : total new_in answers ≡ facts_of (meant k) U

-- The sheet with its rules' lines shuffled, and what is said alike of both after the same calls.
pub record Shuffled (s s' : List ℕ) (k : Contents) : Type 0 where
  pub contents : Contents
  pub accepts : SheetAccepted s' contents
  pub check : checked s ≡ checked s'
  pub alike : {rs : List (List ℕ)} {U U' : List ℕ} {answers answers' : List (Result Gain)} → FromBlank s k rs U answers → FromBlank s' contents rs U' answers'
      → SaidAlike s s' k contents U U' answers answers'

-- What ask and add give after calls is so in the history.
pub record Holds (s U : List ℕ) (answers : List (Result Gain)) (h : History) : Type 0 where
  pub values : (x t : ℕ) (v : Bool) → Asks s U x t (accepted (valued v)) → h x (pos t) ≡ v
  pub no_contradiction : (x t : ℕ) → Asks s U x t (accepted Contradiction) → ⊥
  pub no_clash : (new : ℕ) → Memᴰ (accepted (gain new true)) answers → ⊥

-- What the listing l shows under the names of the signals is so in the history.
pub record ListingHolds (names : List (List ℕ)) (l : List ℕ) (h : History) : Type 0 where
  pub values : (i x t : ℕ) (v : Bool) → x < length names → Names l i (get_or names x []) → sign_under l i t ≡ shown v → h x (pos t) ≡ v
  pub no_clash : line_of l 3 ≡ bytes "clash=1" → ⊥

pub record Demand3 : Type 0 where
  -- "Start from an empty table with an accepted sheet. Cut an accepted list of readings into one or more calls of add at any boundary between
  -- readings, in any order, repeats and refused calls among them: the last table is the same, and the facts newly reported add up to the facts in it." In
  -- a text of spans cuts fall between spans (E5).
  pub cut : {s R : List ℕ} {k : Contents} {ms : List Mark} {parts : List (List ℕ)} {cs : List Given} {U : List ℕ} {answers : List (Result Gain)}
      → SheetAccepted s k → ReadingsAccepted s k R ms → CutInto s k R parts → RunCalls (blank k) cs U answers → InCalls s parts cs answers → AsOneCall s k R U answers
  -- Each part is accepted by itself, and there are such calls.
  pub parts : {s R : List ℕ} {k : Contents} {ms : List Mark} {parts : List (List ℕ)} → SheetAccepted s k → ReadingsAccepted s k R ms → CutInto s k R parts
      → (r : List ℕ) → Memᴰ r parts → (ns : List Mark) × ReadingsAccepted s k r ns
  pub calls : (k : Contents) (cs : List Given) → (U : List ℕ) × (answers : List (Result Gain)) × RunCalls (blank k) cs U answers
  -- However readings are put into texts, single ones, spans or both, with an accepted text at least: the same marks end in one table. And after any calls
  -- the facts reported add up.
  pub same_readings : {s : List ℕ} {k : Contents} {rs rs' : List (List ℕ)} {U U' : List ℕ} {answers answers' : List (Result Gain)} {r r' : List ℕ} {ms ms' : List Mark}
      → FromBlank s k rs U answers → FromBlank s k rs' U' answers' → Memᴰ r rs → ReadingsAccepted s k r ms → Memᴰ r' rs' → ReadingsAccepted s k r' ms'
      → ((m : Mark) → ReadIn s k rs m ↔ ReadIn s k rs' m) → U ≡ U'
  pub adds_up : {s : List ℕ} {k : Contents} {rs : List (List ℕ)} {U : List ℕ} {answers : List (Result Gain)} → FromBlank s k rs U answers → total new_in answers ≡ facts_of (meant k) U
  pub runs : (s : List ℕ) (k : Contents) → SheetAccepted s k → (rs : List (List ℕ)) → (U : List ℕ) × (answers : List (Result Gain)) × FromBlank s k rs U answers
  -- "Shuffle the rules, and every signal's values, the fact total and the clash answer stay." Every accepted sheet is a head and lines of rules.
  pub shuffled : {h : List ℕ} {bodies bodies' : List (List ℕ)} {k : Contents} → Parted h bodies → Permᴰ bodies bodies' → SheetAccepted (sheet_text h bodies) k
      → Shuffled (sheet_text h bodies) (sheet_text h bodies') k
  pub in_parts : (s : List ℕ) {k : Contents} → SheetAccepted s k → InParts s
  -- "Every value given holds in every history that obeys the sheet at each tick of the window and agrees with the readings; a clash is given only
  -- where no such history exists": after calls of add, refused ones among them,
  pub holds : {s : List ℕ} {k : Contents} {rs : List (List ℕ)} {U : List ℕ} {answers : List (Result Gain)} → FromBlank s k rs U answers
      → (h : History) → Obeys (meant k) h → AgreesWith s k rs h → Holds s U answers h
  -- and in what the listing program prints.
  pub listed : {s r l : List ℕ} {k : Contents} → SheetAccepted s k → Settles s r l → (h : History) → Obeys (meant k) h → AgreesWith s k (r ∷ []) h → ListingHolds (names_in s k) l h

pub demand_3 : Demand3
demand_3 = record {
  cut = λ x y c run i. record { same = parts_as_one x y c run i; adds_up = parts_add_up x y c run i };
  parts = part_accepted;
  calls = λ k cs. calls_some cs (blank k) (empty_small 64 (table_words (meant k)));
  same_readings = λ x x' i y i' y' same. by_readings x x' i y i' y' same;
  adds_up = news_add_up;
  runs = run_some;
  shuffled = λ {h} {bodies} {bodies'} y p x.
      let e = in_sheet_text (sheet_text h bodies) x in
      let z = shuffled_alike y p e in
      record { contents = _; accepts = sheet_in_lem (sheet_text h bodies') z.second; check = check_alike y p e; alike = λ w w'. said_alike z w.run w'.run };
  in_parts = λ s x. in_parts s (in_sheet_text s x);
  holds = λ x h obeys agrees. record { values = value_holds x h obeys agrees; no_contradiction = no_contradiction x h obeys agrees; no_clash = no_clash_told x h obeys agrees };
  listed = λ x y h obeys agrees. record { values = listing_value x h obeys agrees y; no_clash = listing_clash x h obeys agrees y };
}
