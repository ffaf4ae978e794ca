-- An opened sheet: what the text holds, the words of its rows and its tops, by what reading and lowering it ensure.
-- Assumes nothing.
use mathlib.Core.Path.{◌≡◌, refl, sym, ap, ◌∙◌, subst}
use mathlib.Core.Bool.{Bool, true, false, and-false}
use mathlib.Core.Logic.{◌⊎◌, inl, inr, ⊎_elim}
use mathlib.Core.List.{List, [], ◌∷◌, Memᴰ}
use Prim.Native.Nat.{ℕ, zero, suc, ◌+◌, ◌≤◌, ◌<◌}
use native.Mathlib.Omega.{arith}
use borrow.Author.Tests.{le-leb, lt-leb}
use lib.Dec.{leb}
use lib.ListN.{length, get_or, drop, length-drop, get_or-append}
use lib.Seq.{sets, sets-eq}
use Rattle.spec_limits.specs.Limits.{most_bytes, most_hidden, most_rows}
use Rattle.read_bytes.specs.Read.Read.{got, refused as unread}
use Rattle.read_names.specs.Spellings.{names_at}
use Rattle.spec_tilco.specs.Lists.{total}
use Rattle.spec_tilco.specs.Formula.{step_of, hiddens, Sheet, signal_rows, formulas}
use Rattle.spec_tilco.specs.Inference.{Node, signal, not_of, gate, look, node}
use Rattle.spec_tilco.specs.Lowering.{lows, tops_all, program, row_count_lem}
use Rattle.spec_tilco.proofs.Order.{Ordered, LooksWithin, row_count, children_before, looks_within}
use Rattle.read_index.specs.Index.{links, name_count, first_names}
use Rattle.read_head.specs.SheetHead.{first_places, HeadPut}
use Rattle.read_head.specs.declared.HeadLines.{HeadLines}
use Rattle.read_sheet.specs.Sheet.{rules, Contents, contents, sheet_of, meant, near}
use Rattle.read_sheet.specs.RuleAnswers.{AllRules}
use Rattle.read_sheet.proofs.Accepted.{sheet_fits, sheet_declared}
use Rattle.read_head.proofs.Heads.{head_past}
use Rattle.read_sheet.proofs.Ruled.{rules_many}
use Rattle.read_sheet.proofs.Wholes.{refused_rule, refused_more, sheet_is}
use Rattle.lower_rule.specs.RuleRows.{Buffers, buffers, LowersAll, all_lowered_says}
use Rattle.std.specs.Prelude.{Some, None, Ok}
use Rattle.lower_rule.specs.declared.rules.InUse.{InUse}
use Rattle.lower_rule.proofs.InTurn.{tops_length, went_all}
use Rattle.lower_rule.proofs.Sheets.{sheet_used, sheet_row}
use Rattle.lower_lines.specs.InTurn.{Legible, rules_at}
use Rattle.lower_sheet.specs.SheetRows.{InPlace, FitOrOver, RulesStand}
use Rattle.lower_lines.specs.declared.RuleLines.{RuleLines}
use Rattle.lower_sheet.proofs.Standing.{tops_many, when_placed, when_over}
use Rattle.close_rules.specs.Codes.{Fine, TopsAre}
use Rattle.open_sheet.specs.Results.{accepted, refused}
use Rattle.open_sheet.specs.SheetIn.{fits, sized, sheet_in}
use Rattle.open_sheet.specs.OpenedSheet.{OpenedSheet}

-- ---- what the text holds

module _ (s : List ℕ) where
  pub in_refused : {n p : ℕ} → sheet_of s ≡ unread n p → sheet_in s ≡ refused n p
  unfolding sheet_in
  in_refused e = ap sized e

  module _ {k : Contents} {q : ℕ} (e : sheet_of s ≡ got k q) where
    pub in_fits : total hiddens k.rules ≤ most_hidden → row_count_lem (meant k) ≤ most_rows → sheet_in s ≡ accepted k
    unfolding sheet_in fits
    in_fits h r = ap sized e ∙ rw (le-leb (total hiddens k.rules) most_hidden h, le-leb (row_count_lem (meant k)) most_rows r)

    pub in_over : (most_hidden < total hiddens k.rules) ⊎ (most_rows < row_count_lem (meant k)) → sheet_in s ≡ refused 9 0
    unfolding sheet_in fits
    in_over o =
        ap sized e
        ∙ ⊎_elim (λ h. rw (lt-leb (total hiddens k.rules) most_hidden h)) (λ h. rw (lt-leb (row_count_lem (meant k)) most_rows h, and-false (leb (total hiddens k.rules) most_hidden))) o

-- ---- its rows

-- -1 and 1 are near.
near_steps : (b : Bool) → near (step_of b) 0
near_steps true = (omega arith, omega arith)
near_steps false = (omega arith, omega arith)

fine_row : (m r : ℕ) (n : Node) → Ordered m r n → LooksWithin near r n → Fine r n
fine_row m r signal o l = tt
fine_row m r (not_of x) o l = o.1
fine_row m r (gate u a b) o l = o
fine_row m r (look k c) o l = (o, omega (arith, l.2.0, l.3), omega (arith, l.2.1, l.4))

-- ---- its tops

member : (xs : List ℕ) (i : ℕ) → i < length xs → Memᴰ (get_or xs i 0) xs
member [] i h = absurd (omega arith)
member (x ∷ xs) zero h = Memᴰ.head refl
member (x ∷ xs) (suc i) h = Memᴰ.tail (member xs i (omega arith))

place : (xs : List ℕ) (r : ℕ) → Memᴰ r xs → (i : ℕ) × (i < length xs) × (get_or xs i 0 ≡ r)
place [] r x' = elim x' [ ]
place (x ∷ xs) r (Memᴰ.head e) = (0, omega arith, sym e)
place (x ∷ xs) r (Memᴰ.tail m) = let p = place xs r m in (suc p.0, omega (arith, p.1), p.2)

-- What is stored from the first place on stands in its turn.
stored : (xs ws : List ℕ) → length ws ≤ length xs → (i : ℕ) → i < length ws → get_or (sets xs 0 ws) i 0 ≡ get_or ws i 0
stored xs ws h i l = ap (λ (v : List ℕ). get_or v i 0) (sets-eq ws xs 0 (omega arith)) ∙ get_or-append ws (drop (0 + length ws) xs) 0 i l

module _ (s : Sheet) (B B' : Buffers) (u : InUse) (w : LowersAll (lows (formulas s)) (signal_rows s) 0 B B' (Some u)) where
  abbrev tops : List ℕ
  tops = tops_all (lows (formulas s)) (signal_rows s)

  pub tops_stand : (t : ℕ) → t ≡ length (lows (formulas s)) → t ≤ length B.tops → TopsAre (program s) B'.tops t
  unfolding LowersAll
  tops_stand t e h =
      let n : length tops ≡ t = tops_length (lows (formulas s)) (signal_rows s) ∙ sym e in
      let stands : (i : ℕ) → i < t → get_or B'.tops i 0 ≡ get_or tops i 0 = λ i l. ap (λ (v : List ℕ). get_or v i 0) w.holds ∙ stored B.tops tops (omega arith) i (omega arith) in
      record {
        given = λ i l. subst (λ (r : ℕ). Memᴰ r tops) (sym (stands i l)) (member tops i (omega arith));
        every = λ r m. let p = place tops r m in (p.0, omega (arith, p.1), stands p.0 (omega (arith, p.1)) ∙ p.2);
      }

-- ---- all of it

-- The text is not too long, and its head was read: its names stand in the index T.
module _ {s T : List ℕ} {h : HeadLines} (short : length s ≤ most_bytes) (o : HeadPut s T h) where
  abbrev places : List ℕ
  places = first_places h.signals T

  abbrev names : List ℕ
  names = first_names h.signals T

  -- the rules' lines can be read
  pub legible : Legible s names h.rules h.first
  legible =
      let a = head_past s o.lines in
      record { within = a.inside; before = a.before; index = o.put.index; most = o.sizes.rules_high }

  -- a rule is refused
  pub rule_refused : {k p : ℕ} → rules_at s names h.rules h.first ≡ unread k p → sheet_in s ≡ refused k p
  rule_refused e = in_refused s (refused_rule s short o.lines e)

  module _ {B ts : List ℕ} (l : RuleLines) (y : RulesStand (rules_at s names h.rules h.first) (name_count names) (buffers B ts) (Ok l)) where
    abbrev found : AllRules (rules (names_at s places) s h.rules h.first) l.hidden l.end
    found = y.0

    -- as many names as places
    in_rows : FitOrOver found.all (length places) l.hidden (buffers B ts) (all_lowered_says l.lowered)
    in_rows = subst (λ (i : ℕ). FitOrOver found.all i l.hidden (buffers B ts) (all_lowered_says l.lowered)) (sym (length-drop links names)) y.1

    -- bytes follow the last line
    pub more_follow : (l.end ≡ length s → ⊥) → sheet_in s ≡ refused 2 l.end
    more_follow f = in_refused s (refused_more s short o.lines found.reads f)

    module _ (end : l.end ≡ length s) where
      abbrev held : Contents
      held = contents h.window places found.all

      reads : sheet_of s ≡ got held l.end
      reads = sheet_is s short o.lines found.reads end

      -- the sheet is over its size
      pub not_fitting : l.lowered ≡ None → sheet_in s ≡ refused 9 0
      not_fitting f =
          in_over s reads (⊎_elim (λ i. inl (omega (arith, i, found.hidden))) (λ i. inr (omega (arith, i, found.hidden, row_count (meant held)))) (when_over in_rows (ap all_lowered_says f)))

      -- it is accepted
      pub fitting : (u : InUse) → l.lowered ≡ Some u → OpenedSheet s places B ts h.window u.tops u.rows
      fitting u f =
          let a : InPlace held.rules (length places) l.hidden u (buffers B ts) = when_placed in_rows (ap all_lowered_says f) in
          let few : total hiddens held.rules ≤ most_hidden = omega (arith, a.few, found.hidden) in
          let d : LowersAll (lows (formulas (meant held))) (signal_rows (meant held)) 0 a.start (buffers B ts) (Some u)
          = subst (λ (i : ℕ). LowersAll (lows (formulas (meant held))) (length places + i) 0 a.start (buffers B ts) (Some u)) found.hidden a.done in
          let g = went_all d in
          let c = sheet_used (meant held) 0 a.start (buffers B ts) u d in
          let many = rules_many (names_at s places) s h.rules h.first legible.within found.reads in
          let tops_fit : u.tops ≤ length a.start.tops = omega (arith, g.tops, tops_many held.rules (length places), many, few, o.sizes.rules_high, a.lent.wide) in
          record {
            contents = held;
            holds = in_fits s reads few (omega (arith, c.1, a.lent.long));
            window_is = refl;
            names_are = refl;
            rows = c.0;
            codes = record {
              long = omega (arith, g.room, g.long, a.lent.long);
              rows_are = sym c.0;
              nodes = λ i. sym (sheet_row (meant held) (sheet_declared s reads) 0 a.start (buffers B ts) u a.lent.blank d (omega (arith, a.lent.long)) i);
              fine = λ i. fine_row (signal_rows (meant held)) i (node (program (meant held)) i) (children_before (meant held) (sheet_declared s reads) i) (looks_within (meant held) near near_steps (sheet_fits s reads) i);
            };
            tops_are = tops_stand (meant held) a.start (buffers B ts) u d u.tops (omega (arith, g.tops)) tops_fit;
            few = omega (arith, tops_fit, g.wide);
          }
