-- What is known after the lines before a place were taken: each that starts there is of its form, has a declared name, and its caption is kept; and no other caption is.
-- Assumes nothing. `names` are the declared names, c is the captions' text, `at` the places of the captions by signal.
use mathlib.Core.Path.{◌≡◌, sym, ap, subst, ◌∙◌}
use mathlib.Core.List.{List}
use Prim.Native.Nat.{ℕ, suc, ◌+◌, ◌<◌, ◌≤◌}
use native.Mathlib.Omega.{arith}
use native.Mathlib.Decide.{ℕ_discrete, dec_lt}
use Rattle.std.specs.Prelude.{Option, Some, None}
use Rattle.read_bytes.proofs.Values.{same_some, none_not}
use lib.ListN.{length, get_or, set, length-set, length-replicate}
use lib.Seq.{get_or-set_same, get_or-set_other}
use Rattle.read_names.specs.Spellings.{find_name}
use Rattle.read_captions.specs.Captions.{no_captions}
use Rattle.read_captions.proofs.NotedCaptions.{none_there}
use Rattle.proof_caption.specs.CaptionTexts.{LineAt, LineStart}
use Rattle.proof_caption.specs.CaptionTexts.LineStart.{first}
use Rattle.proof_caption.proofs.LineEnds.{line_last, last_inside, next_start, start_past}

-- The line at q was taken.
pub record TakenLine (names : List (List ℕ)) (c : List ℕ) (at : List (Option ℕ)) (q : ℕ) : Type 0 where
  pub name : List ℕ
  pub caption : List ℕ
  pub line : LineAt c q name caption
  pub declared : find_name name names < length names
  pub kept : get_or at (find_name name names) None ≡ Some (q + length name + 1)

-- The caption of signal x at v is that of a line before p.
pub record Origin (names : List (List ℕ)) (c : List ℕ) (p x v : ℕ) : Type 0 where
  pub from : ℕ
  pub name : List ℕ
  pub caption : List ℕ
  pub earlier : from < p
  pub starts : LineStart c from
  pub line : LineAt c from name caption
  pub signal : find_name name names ≡ x
  pub place : v ≡ from + length name + 1

pub record Taken (names : List (List ℕ)) (c : List ℕ) (at : List (Option ℕ)) (p : ℕ) : Type 0 where
  pub many : length at ≡ length names
  pub starts : LineStart c p
  pub inside : p ≤ length c
  pub each : (q : ℕ) → q < p → LineStart c q → TakenLine names c at q
  pub noted : (x v : ℕ) → get_or at x None ≡ Some v → Origin names c p x v

module _ (names : List (List ℕ)) (c : List ℕ) where
  pub taken_none : Taken names c (no_captions (length names)) 0
  unfolding no_captions
  taken_none = record {
    many = length-replicate {A = Option ℕ} (length names) None;
    starts = first;
    inside = omega arith;
    each = λ q l. absurd (omega arith);
    noted = λ x v n. absurd (none_not (sym (none_there (length names) x) ∙ n));
  }

  -- One line more, of a signal that had no caption.
  module _ {at : List (Option ℕ)} {p : ℕ} (t : Taken names c at p) {w k : List ℕ} (h : LineAt c p w k) (d : find_name w names < length names) (new : get_or at (find_name w names) None ≡ None) where
    abbrev place : ℕ
    place = p + length w + 1

    abbrev now : List (Option ℕ)
    now = set at (find_name w names) (Some place)

    here : get_or now (find_name w names) None ≡ Some place
    here = get_or-set_same at (find_name w names) (Some place) None (omega (arith, t.many))

    other : (x : ℕ) → (x ≡ find_name w names → ⊥) → get_or now x None ≡ get_or at x None
    other x n = get_or-set_other at (find_name w names) x (Some place) None n

    each_now : (q : ℕ) → q < suc (line_last p w k) → LineStart c q → TakenLine names c now q
    each_now q l s = go (dec_lt q p) (dec_lt p q)
      where
        go : Dec (q < p) → Dec (p < q) → TakenLine names c now q
        go (yes i) j =
            let o = t.each q i s in
            record {
              name = o.name;
              caption = o.caption;
              line = o.line;
              declared = o.declared;
              kept = other (find_name o.name names) (λ i. none_not (sym new ∙ ap (λ (y : ℕ). get_or at y None) (sym i) ∙ o.kept)) ∙ o.kept;
            }
        go (no i) (yes j) = absurd (let m = start_past h s j in omega arith)
        go (no i) (no j) = let e : p ≡ q = omega arith in subst (TakenLine names c now) e (record { name = w; caption = k; line = h; declared = d; kept = here })

    noted_now : (x v : ℕ) → get_or now x None ≡ Some v → Origin names c (suc (line_last p w k)) x v
    noted_now x v n = go (ℕ_discrete (find_name w names) x)
      where
        go : Dec (find_name w names ≡ x) → Origin names c (suc (line_last p w k)) x v
        go (yes i) = record {
          from = p;
          name = w;
          caption = k;
          earlier = omega arith;
          starts = t.starts;
          line = h;
          signal = i;
          place = same_some (sym n ∙ ap (λ (y : ℕ). get_or now y None) (sym i) ∙ here);
        }
        go (no i) =
            let o = t.noted x v (sym (other x (λ e. i (sym e))) ∙ n) in
            record {
              from = o.from;
              name = o.name;
              caption = o.caption;
              earlier = omega (arith, o.earlier);
              starts = o.starts;
              line = o.line;
              signal = o.signal;
              place = o.place;
            }

    pub taken_more : Taken names c now (suc (line_last p w k))
    taken_more = record {
      many = simp length-set t.many;
      starts = next_start h;
      inside = last_inside h;
      each = each_now;
      noted = noted_now;
    }
