-- One add to a lent table, and its listing: what each step asks, and what is printed then.
-- Assumes nothing.
use mathlib.Core.Path.{◌≡◌, sym, ap, ap₂, ◌∙◌, subst}
use mathlib.Core.Bool.{Bool, true}
use mathlib.Core.List.{List, ◌++◌}
use mathlib.Core.Logic.{◌↔◌}
use Prim.Native.Nat.{ℕ, ◌*◌, ◌^◌, ◌≤◌, ◌<◌}
use native.Mathlib.Nat.{mul-le-mul_right, zero-add}
use native.Mathlib.Omega.{arith}
use lib.ListN.{length, take, drop}
use Rattle.spec_limits.specs.Limits.{most_listed, most_signals, most_ticks}
use Rattle.read_names.specs.Spellings.{names_at}
use Rattle.read_names.proofs.Names.{names_many}
use Rattle.spec_tilco.specs.Lists.{All}
use Rattle.spec_tilco.specs.Inference.{Clash}
use Rattle.spec_tilco.specs.Lowering.{row_count_lem}
use Rattle.spec_tilco.specs.Table.{words, Stands, Standing, table_words, facts, facts_of, Answer}
use Rattle.spec_tilco.proofs.Order.{row_count}
use Rattle.read_sheet.specs.Sheet.{Contents, meant}
use Rattle.read_sheet.proofs.Wholes.{sheet_head}
use Rattle.read_head.proofs.DeclaredNames.{head_names}
use Rattle.write_bytes.specs.Writes.{Wrote, Counted}
use Rattle.open_sheet.specs.Results.{Result, accepted, refused}
use Rattle.spec_operations.specs.Gain.{gain}
use Rattle.open_sheet.specs.SheetIn.{sheet_in, names_in}
use Rattle.open_sheet.specs.OpenedSheet.{OpenedSheet}
use Rattle.spec_operations.specs.Operations.{Adds}
use Rattle.spec_operations.specs.Operations.Adds.{not_opened, not_read, added}
use Rattle.open_table.proofs.Tables.{accepted_one, InSheet, in_sheet, names_stand, RowWords, row_words, table_most}
use Rattle.spec_operations.proofs.Opened.{fitting}
use Rattle.list_signals.specs.Signals.{Listable, Answers}
use Rattle.list_table.specs.Listing.{listing_text, refusal_text}
use Rattle.list_settled.specs.Prints.{Lists, Prints, WrittenWithin, Written, Begun, text_of}
use Rattle.list_settled.specs.Prints.Lists.{not_added, listed}
use Rattle.list_settled.specs.Prints.Prints.{no_sheet, no_room, on_table}
use Rattle.list_table.proofs.Lengths.{listing_most, refusal_most}
use Rattle.list_signals.proofs.Answered.{answers_there}

-- The listing of a sheet that was opened fits the listing's buffer, whatever its numbers and marks are,
listing_fits : (s : List ℕ) {k : Contents} → sheet_in s ≡ accepted k → (rows facts : ℕ) (clash : Bool) (f : ℕ → ℕ → Answer) → length (listing_text (names_in s k) k.window rows facts clash f) ≤ most_listed
listing_fits s {k} e rows facts clash f =
    let z = in_sheet s e in
    let short = (head_names s (sheet_head s z.reads).2).short in
    listing_most (names_in s k) k.window rows facts clash f short (omega (arith, names_many s k.places, z.sizes.signals_high)) z.sizes.window_high

-- and so does whatever is told of a table, or of a lent one.
lists_most : {s r T U : List ℕ} {a : Result (List ℕ)} → Lists s r T U a → length (text_of a) ≤ most_listed
lists_most (not_added {n} {p} x) = refusal_most n p
lists_most {s} (listed {k = k} {U} {clash = clash} {f} e x q) = listing_fits s e (row_count_lem (meant k)) (facts_of (meant k) U) clash f

pub prints_most : {s r T U : List ℕ} {a : Result (List ℕ)} → Prints s r T U a → length (text_of a) ≤ most_listed
prints_most (no_sheet {n} {p} e) = refusal_most n p
prints_most (no_room e l) = refusal_most 29 0
prints_most (on_table e l x) = lists_most x

-- What is told, if it fits, and was written.
module _ {limit : ℕ} (R : Result (List ℕ) → Type 0) {a : Result (List ℕ)} (x : R a) (fits : length (text_of a) ≤ limit) where
  pub written : {m m' : List ℕ} {n : ℕ} → Wrote (text_of a) 0 m m' n → WrittenWithin limit R m m' n
  written {n = n} w =
      let k : n ≡ length (text_of a) = w.next ∙ zero-add (length (text_of a)) in
      record { told = a; tells = x; long = k; most = omega (arith, k, fits); holds = w.holds }

-- An add that is refused keeps every word.
pub refused_keeps : {s r T U : List ℕ} {n p : ℕ} → Adds s r T U (refused n p) → U ≡ T
refused_keeps (not_opened o e) = e
refused_keeps (not_read o f e) = e

pub refused_lists : {s r T U : List ℕ} {n p : ℕ} → Adds s r T U (refused n p) → Lists s r T U (refused n p)
refused_lists {s} {r} {T} {U} {n} {p} x =
    let e : U ≡ T = refused_keeps x in
    subst (λ (X : List ℕ). Lists s r T X (refused n p)) (sym e) (not_added (subst (λ (X : List ℕ). Adds s r T X (refused n p)) e x))

-- What an accepted add says of the table that it makes.
record Made (k : Contents) (U : List ℕ) (clash : Bool) : Type 0 where
  size : length U ≡ table_words (meant k)
  clashes : (clash ≡ true) ↔ Clash (Standing (meant k) U)

made : {s r T U : List ℕ} {k : Contents} {new : ℕ} {clash : Bool} → sheet_in s ≡ accepted k → Adds s r T U (accepted (gain new clash)) → Made k U clash
made {T = T} {U} {k} {new} {clash} holds (added {k = c} o e a n b) =
    let i : c ≡ k = accepted_one (sym (fitting o).holds ∙ holds) in
    record {
      size = a.size ∙ (fitting o).long ∙ ap (λ (x : Contents). table_words (meant x)) i;
      clashes = subst (λ (x : Contents). (clash ≡ true) ↔ Clash (Standing (meant x) U)) i b;
    }

-- The refusal of an add is written.
pub prints_refusal : {s r T U m m' : List ℕ} {v n p : ℕ} → Adds s r T U (refused n p) → Wrote (refusal_text n p) 0 m m' v → Written (Lists s r T U) m m' v
prints_refusal {s} {r} {T} {U} {n = n} {p} a w = written (Lists s r T U) (refused_lists a) (refusal_most n p) w

module _ {s places : List ℕ} {w count : ℕ} (b : Begun s places w count) where
  abbrev k : Contents
  k = b.contents

  pub known : InSheet s k
  known = in_sheet s b.holds

  pub window_most : w ≤ most_ticks
  window_most = omega (arith, b.window_is, known.sizes.window_high)

  -- The names stand in the text, and are at most 64.
  pub named : All (λ p. p ≤ length s) places
  named = subst (All (λ p. p ≤ length s)) (sym b.names_are) (names_stand s b.holds)

  pub few : length places ≤ most_signals
  few = omega (arith, ap length b.names_are, known.sizes.signals_high)

  -- The places of the listing can be counted.
  pub listing_counted : (rows facts : ℕ) (clash : Bool) (f : ℕ → ℕ → Answer) → Counted 0 (listing_text (names_at s places) w rows facts clash f)
  listing_counted rows facts clash f = rw (b.names_are, b.window_is) (record { below = omega (arith, listing_fits s b.holds rows facts clash f) })

  module _ {r T U : List ℕ} {new : ℕ} {clash : Bool} (a : Adds s r T U (accepted (gain new clash))) (n : ℕ) (e : n ≡ words w) where
    told : Made k U clash
    told = made b.holds a

    pub same_words : n ≡ words k.window
    same_words = e ∙ ap words b.window_is

    spread : RowWords k.window n
    spread = row_words known.sizes.window_low known.sizes.window_high same_words

    long : length U ≡ 2 * row_count_lem (meant k) * n
    long = told.size ∙ ap (λ (i : ℕ). 2 * row_count_lem (meant k) * i) (sym same_words)

    fits : 2 * length places * n ≤ length U
    fits =
        let p : length places ≡ length k.places = ap length b.names_are in
        let l : 2 * length places * n ≤ 2 * row_count_lem (meant k) * n = mul-le-mul_right n (omega (arith, row_count (meant k))) in
        omega (arith, l, long)

    -- The facts can be counted.
    pub countable : (1 ≤ n) × (2 * length places * n ≤ length U) × (2 * length places * n < 2 ^ 32)
    countable = (spread.some, fits, omega (arith, fits, long, table_most known.rows spread.most))

    pub listable : Listable (length places) w n U clash
    listable = record {
      rows = fits;
      ticks = omega (arith, spread.cover, b.window_is);
      clashes = subst (λ (i : ℕ). (clash ≡ true) ↔ Clash (Stands i U)) (sym same_words) told.clashes;
    }

    -- What ask answers of each signal at each tick.
    abbrev pub answers : ℕ → ℕ → Answer
    answers x = (answers_there listable x).0

    pub answers_are : Answers (Stands n U) (length places) w answers
    answers_are x h = (answers_there listable x).1

    pub answers_in : Answers (Standing (meant k) U) (length k.places) k.window answers
    answers_in =
        subst (λ (v : ℕ). Answers (Standing (meant k) U) (length k.places) v answers) b.window_is
        (subst (λ (p : List ℕ). Answers (Standing (meant k) U) (length p) w answers) b.names_are
        (subst (λ (i : ℕ). Answers (Stands i U) (length places) w answers) same_words answers_are))

    -- The listing is written.
    pub prints_listing : {m m' : List ℕ} {v total : ℕ} → total ≡ facts n (length places) U
        → ((f : ℕ → ℕ → Answer) → Answers (Stands n U) (length places) w f → Wrote (listing_text (names_at s places) w count total clash f) 0 m m' v) → Written (Lists s r T U) m m' v
    prints_listing {m} {m'} {v} {total} counted x =
        let text = listing_text (names_in s k) k.window (row_count_lem (meant k)) (facts_of (meant k) U) clash answers in
        let y : Wrote text 0 m m' v = subst (λ (l : List ℕ). Wrote l 0 m m' v) same (x answers answers_are) in
        written (Lists s r T U) (listed b.holds a answers_in) (listing_fits s b.holds (row_count_lem (meant k)) (facts_of (meant k) U) clash answers) y
      where
        total_is : total ≡ facts_of (meant k) U
        total_is = counted ∙ ap₂ (λ (i : ℕ) (p : List ℕ). facts i (length p) U) same_words b.names_are

        same : listing_text (names_at s places) w count total clash answers ≡ listing_text (names_in s k) k.window (row_count_lem (meant k)) (facts_of (meant k) U) clash answers
        same =
            ap (λ (p : List ℕ). listing_text (names_at s p) w count total clash answers) b.names_are
            ∙ ap (λ (v : ℕ). listing_text (names_in s k) v count total clash answers) b.window_is
            ∙ ap (λ (i : ℕ). listing_text (names_in s k) k.window i total clash answers) b.rows
            ∙ ap (λ (i : ℕ). listing_text (names_in s k) k.window (row_count_lem (meant k)) i clash answers) total_is

-- The sheet was opened, with the names at the places that are lent for it.
pub begun : {s places part B tops : List ℕ} {w t count : ℕ} → OpenedSheet s places B tops w t count → part ≡ places → Begun s part w count
begun y same = record { contents = y.contents; holds = y.holds; window_is = y.window_is; names_are = same ∙ y.names_are; rows = y.rows }

-- Its table stands in the first words of the lent one, or that has too few.
module _ {s places : List ℕ} {w count : ℕ} (b : Begun s places w count) (n : ℕ) (e : n ≡ words w) where
  pub same_table : 2 * count * n ≡ table_words (meant b.contents)
  same_table = ap₂ (λ (i m : ℕ). 2 * i * m) b.rows (e ∙ ap words b.window_is)

  module _ {r T : List ℕ} {m m' : List ℕ} {v : ℕ} where
    pub prints_no_room : length T < 2 * count * n → Wrote (refusal_text 29 0) 0 m m' v → Written (Prints s r T T) m m' v
    prints_no_room l x = written (Prints s r T T) (no_room b.holds (omega (arith, same_table))) (refusal_most 29 0) x

    pub prints_on_table : {U : List ℕ} → 2 * count * n ≤ length T → Written (Lists s r (take (2 * count * n) T) U) m m' v → Written (Prints s r T (U ++ drop (2 * count * n) T)) m m' v
    prints_on_table {U} l x = record {
      told = x.told;
      tells = subst (λ (i : ℕ). Prints s r T (U ++ drop i T) x.told) (sym same_table)
          (on_table b.holds (omega (arith, same_table)) (subst (λ (i : ℕ). Lists s r (take i T) U x.told) same_table x.tells));
      long = x.long;
      most = x.most;
      holds = x.holds;
    }

pub prints_no_sheet : {s r T m m' : List ℕ} {v n p : ℕ} → sheet_in s ≡ refused n p → Wrote (refusal_text n p) 0 m m' v → Written (Prints s r T T) m m' v
prints_no_sheet {s} {r} {T} {n = n} {p} e x = written (Prints s r T T) (no_sheet e) (refusal_most n p) x
