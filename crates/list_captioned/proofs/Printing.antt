-- One add to a lent table, and its listing with a text to be shown of each signal: what each step asks, and what is printed then.
-- Assumes nothing.
use mathlib.Core.Path.{◌≡◌, sym, ap, ap₂, ◌∙◌, subst}
use mathlib.Core.Bool.{Bool}
use mathlib.Core.List.{List, ◌++◌}
use Prim.Native.Nat.{ℕ, ◌*◌, ◌≤◌, ◌<◌}
use native.Mathlib.Omega.{arith}
use lib.ListN.{length, take, drop}
use Rattle.spec_limits.specs.Limits.{most_captioned, most_name_bytes, most_rows}
use Rattle.std.specs.Prelude.{Option}
use Rattle.read_bytes.specs.Read.Read.{got, refused as unread}
use Rattle.read_names.specs.Spellings.{names_at}
use Rattle.read_index.specs.Index.{links, places_in, name_count, names_in as indexed}
use Rattle.read_index.proofs.Places.{places_part_lem}
use Rattle.read_captions.specs.Captions.{captions_in}
use Rattle.read_captions.specs.Parts.{shown_texts}
use Rattle.read_captions.proofs.NotedCaptions.{noted_many, noted_each}
use Rattle.read_captions.proofs.ShownParts.{shown_many}
use Rattle.read_captions.proofs.ShortTexts.{Short, shown_short, showable, texts_short}
use Rattle.read_names.proofs.Names.{names_many}
use Rattle.spec_tilco.specs.Lists.{All}
use Rattle.spec_tilco.specs.Lowering.{row_count_lem}
use Rattle.spec_tilco.specs.Table.{words, Stands, facts, facts_of, Answer}
use Rattle.table_marks.specs.Sizes.{most_table_words}
use Rattle.read_sheet.specs.Sheet.{Contents, meant}
use Rattle.read_sheet.proofs.Wholes.{sheet_head}
use Rattle.read_head.proofs.DeclaredNames.{head_names}
use Rattle.write_bytes.specs.Writes.{Wrote, Counted}
use Rattle.open_sheet.specs.Results.{Result, accepted, refused}
use Rattle.spec_operations.specs.Gain.{gain}
use Rattle.open_sheet.specs.SheetIn.{sheet_in, names_in}
use Rattle.spec_operations.specs.Operations.{Adds}
use Rattle.open_table.proofs.Tables.{accepted_one, in_sheet, row_words, table_most}
use Rattle.list_signals.specs.Signals.{Answers}
use Rattle.list_captioned.specs.ShownListing.{shown_listing}
use Rattle.list_table.specs.Listing.{refusal_text}
use Rattle.list_settled.specs.Prints.{Begun, text_of}
use Rattle.list_captioned.specs.PrintsCaptioned.{ListsShown, PrintsCaptioned, WrittenCaptioned, Captioned}
use Rattle.list_captioned.specs.PrintsCaptioned.ListsShown.{not_added, listed}
use Rattle.list_captioned.specs.PrintsCaptioned.PrintsCaptioned.{no_sheet, no_captions_lem, no_room, on_table}
use Rattle.list_settled.proofs.Printing.{written, refused_keeps, known, named, same_words, answers, answers_are, answers_in, same_table}
use Rattle.list_captioned.proofs.ShownLengths.{listing_most, refusal_most}

-- The listing of a sheet that was opened fits the listing's buffer, whatever its numbers and marks are, and so does whatever is told of its table.
module _ (s : List ℕ) {k : Contents} (e : sheet_in s ≡ accepted k) (shown : List (List ℕ)) (short : All Short shown) (many : length shown ≡ length k.places) where
  pub listing_fits : (rows facts : ℕ) (clash : Bool) (f : ℕ → ℕ → Answer) → length (shown_listing (names_in s k) shown k.window rows facts clash f) ≤ most_captioned
  listing_fits rows facts clash f =
      let z = in_sheet s e in
      let n = names_many s k.places in
      listing_most (names_in s k) shown k.window rows facts clash f short (many ∙ sym n) (omega (arith, n, z.sizes.signals_high)) z.sizes.window_high

  pub lists_most : {r T U : List ℕ} {a : Result (List ℕ)} → ListsShown shown s r T U a → length (text_of a) ≤ most_captioned
  lists_most (not_added {n} {p} x) = refusal_most n p
  lists_most (listed {k = c} {U} {clash = clash} {f} i x q) =
      let j : k ≡ c = accepted_one (sym e ∙ i) in
      subst (λ (y : Contents). length (shown_listing (names_in s y) shown y.window (row_count_lem (meant y)) (facts_of (meant y) U) clash f) ≤ most_captioned) j
      (listing_fits (row_count_lem (meant k)) (facts_of (meant k) U) clash f)

-- An add that is refused is told.
pub refused_lists : (shown : List (List ℕ)) {s r T U : List ℕ} {n p : ℕ} → Adds s r T U (refused n p) → ListsShown shown s r T U (refused n p)
refused_lists shown {s} {r} {T} {U} {n} {p} x =
    let e : U ≡ T = refused_keeps x in
    subst (λ (X : List ℕ). ListsShown shown s r T X (refused n p)) (sym e) (not_added (subst (λ (X : List ℕ). Adds s r T X (refused n p)) e x))

-- The refusal of an add is written.
pub prints_refusal : (shown : List (List ℕ)) {s r T U m m' : List ℕ} {v n p : ℕ} → Adds s r T U (refused n p) → Wrote (refusal_text n p) 0 m m' v → WrittenCaptioned (ListsShown shown s r T U) m m' v
prints_refusal shown {s} {r} {T} {U} {n = n} {p} a w = written (ListsShown shown s r T U) (refused_lists shown a) (refusal_most n p) w

module _ {s places : List ℕ} {w count : ℕ} (b : Begun s places w count) where
  -- The words of its table can be counted.
  pub words_fit : (n : ℕ) → n ≡ words w → (2 * count ≤ 2 * most_rows) × (2 * count * n ≤ most_table_words)
  words_fit n e =
      let m : count ≤ most_rows = omega (arith, b.rows, (known b).rows) in
      (omega arith, table_most m (row_words (known b).sizes.window_low (known b).sizes.window_high (e ∙ ap words b.window_is)).most)

  -- The names are short.
  pub names_short : All (λ n. length n ≤ most_name_bytes) (names_at s places)
  names_short = subst (λ (p : List ℕ). All (λ n. length n ≤ most_name_bytes) (names_at s p)) (sym b.names_are) (head_names s (sheet_head s (known b).reads).2).short

  -- The places of the listing can be counted.
  pub listing_counted : (shown : List (List ℕ)) → All Short shown → length shown ≡ length places
      → (rows facts : ℕ) (clash : Bool) (f : ℕ → ℕ → Answer) → Counted 0 (shown_listing (names_at s places) shown w rows facts clash f)
  listing_counted shown short many rows facts clash f =
      rw (b.names_are, b.window_is) (record { below = omega (arith, listing_fits s b.holds shown short (many ∙ ap length b.names_are) rows facts clash f) })

  module _ {r T U : List ℕ} {new : ℕ} {clash : Bool} (a : Adds s r T U (accepted (gain new clash))) (n : ℕ) (e : n ≡ words w) where
    -- What ask answers of each signal at each tick.
    abbrev f : ℕ → ℕ → Answer
    f = answers b a n e

    -- The listing is written.
    pub prints_listing : (shown : List (List ℕ)) → All Short shown → length shown ≡ length places → {m m' : List ℕ} {v total : ℕ}
        → ((f : ℕ → ℕ → Answer) → Answers (Stands n U) (length places) w f → Wrote (shown_listing (names_at s places) shown w count total clash f) 0 m m' v) → total ≡ facts n (length places) U → WrittenCaptioned (ListsShown shown s r T U) m m' v
    prints_listing shown short many {m} {m'} {v} {total} x counted =
        let text = shown_listing (names_in s b.contents) shown b.contents.window (row_count_lem (meant b.contents)) (facts_of (meant b.contents) U) clash f in
        let y : Wrote text 0 m m' v = subst (λ (l : List ℕ). Wrote l 0 m m' v) same (x f (answers_are b a n e)) in
        written (ListsShown shown s r T U) (listed b.holds a (answers_in b a n e))
        (listing_fits s b.holds shown short (many ∙ ap length b.names_are) (row_count_lem (meant b.contents)) (facts_of (meant b.contents) U) clash f) y
      where
        total_is : total ≡ facts_of (meant b.contents) U
        total_is = counted ∙ ap₂ (λ (i : ℕ) (p : List ℕ). facts i (length p) U) (same_words b a n e) b.names_are

        same : shown_listing (names_at s places) shown w count total clash f ≡ shown_listing (names_in s b.contents) shown b.contents.window (row_count_lem (meant b.contents)) (facts_of (meant b.contents) U) clash f
        same =
            ap (λ (p : List ℕ). shown_listing (names_at s p) shown w count total clash f) b.names_are
            ∙ ap (λ (v : ℕ). shown_listing (names_in s b.contents) shown v count total clash f) b.window_is
            ∙ ap (λ (i : ℕ). shown_listing (names_in s b.contents) shown b.contents.window i total clash f) b.rows
            ∙ ap (λ (i : ℕ). shown_listing (names_in s b.contents) shown b.contents.window (row_count_lem (meant b.contents)) i clash f) total_is

-- The sheet is opened, and its captions are read: its table stands in the first words of the lent one, or that has too few.
module _ {s places : List ℕ} {w count : ℕ} (b : Begun s places w count) (n : ℕ) (e : n ≡ words w) (c : List ℕ) {at : List (Option ℕ)} {q : ℕ} (read : captions_in (names_at s places) c ≡ got at q) where
  read_in : captions_in (names_in s b.contents) c ≡ got at q
  read_in = subst (λ (p : List ℕ). captions_in (names_at s p) c ≡ got at q) b.names_are read

  module _ {r T : List ℕ} {m m' : List ℕ} {v : ℕ} where
    pub prints_no_room : length T < 2 * count * n → Wrote (refusal_text 29 0) 0 m m' v → WrittenCaptioned (PrintsCaptioned s r c T T) m m' v
    prints_no_room l x = written (PrintsCaptioned s r c T T) (no_room b.holds read_in (omega (arith, same_table b n e))) (refusal_most 29 0) x

    pub prints_on_table : {U : List ℕ} → 2 * count * n ≤ length T → WrittenCaptioned (ListsShown (shown_texts s c places at) s r (take (2 * count * n) T) U) m m' v
        → WrittenCaptioned (PrintsCaptioned s r c T (U ++ drop (2 * count * n) T)) m m' v
    prints_on_table {U} l x = record {
      told = x.told;
      tells = subst (λ (i : ℕ). PrintsCaptioned s r c T (U ++ drop i T) x.told) (sym (same_table b n e))
          (on_table b.holds read_in (omega (arith, same_table b n e))
          (subst (λ (i : ℕ). ListsShown (shown_texts s c b.contents.places at) s r (take i T) U x.told) (same_table b n e)
          (subst (λ (p : List ℕ). ListsShown (shown_texts s c p at) s r (take (2 * count * n) T) U x.told) b.names_are x.tells)));
      long = x.long;
      most = x.most;
      holds = x.holds;
    }

-- The captions are refused,
pub prints_no_captions : {s places c r T m m' : List ℕ} {w count v n p : ℕ} → Begun s places w count → captions_in (names_at s places) c ≡ unread n p → Wrote (refusal_text n p) 0 m m' v
    → WrittenCaptioned (PrintsCaptioned s r c T T) m m' v
prints_no_captions {s} {places} {c} {r} {T} {n = n} {p} b e x =
    let i = subst (λ (l : List ℕ). captions_in (names_at s l) c ≡ unread n p) b.names_are e in
    written (PrintsCaptioned s r c T T) (no_captions_lem b.holds i) (refusal_most n p) x

-- or the sheet is.
pub prints_no_sheet : {s r c T m m' : List ℕ} {v n p : ℕ} → sheet_in s ≡ refused n p → Wrote (refusal_text n p) 0 m m' v → WrittenCaptioned (PrintsCaptioned s r c T T) m m' v
prints_no_sheet {s} {r} {c} {T} {n = n} {p} e x = written (PrintsCaptioned s r c T T) (no_sheet e) (refusal_most n p) x

-- What is known when its captions were read: `places` are those of the names in the index T, as they are lent.
pub record Ready (s c places : List ℕ) (at : List (Option ℕ)) (w count q : ℕ) : Type 0 where
  pub sheet : Begun s places w count
  pub captions : Captioned s c places at
  pub read : captions_in (names_at s places) c ≡ got at q

pub ready : (s T c : List ℕ) {w count : ℕ} → Begun s (places_in T) w count → {at : List (Option ℕ)} {q : ℕ} → captions_in (indexed s T) c ≡ got at q
    → Ready s c (take (name_count T) (drop links T)) at w count q
ready s T c {w} {count} b {at} {q} e =
    subst (λ (p : List ℕ). Ready s c p at w count q) (sym (places_part_lem T))
    (record { sheet = b; captions = record { showable = showable s T c e (named b); short = texts_short s T c e (names_short b) }; read = e })

-- Whatever is told fits the listing's buffer.
pub captioned_most : {s r c T U : List ℕ} {a : Result (List ℕ)} → PrintsCaptioned s r c T U a → length (text_of a) ≤ most_captioned
captioned_most (no_sheet {n} {p} e) = refusal_most n p
captioned_most (no_captions_lem {n = n} {p = p} e i) = refusal_most n p
captioned_most (no_room e i l) = refusal_most 29 0
captioned_most {s} {c = c} (on_table {k = k} {at = at} e i l x) =
    let long = noted_many (names_in s k) c i ∙ names_many s k.places in
    lists_most s e (shown_texts s c k.places at) (shown_short s c k.places at (head_names s (sheet_head s (in_sheet s e).reads).2).short (noted_each (names_in s k) c i))
    (shown_many s c k.places at long) x
