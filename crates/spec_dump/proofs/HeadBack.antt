-- The lines up to `#0` that are written are read back.
-- Assumes nothing. `names` are the declared names, d the dump, p a place in it.
use mathlib.Core.Path.{◌≡◌, refl, sym, ap, ◌∙◌}
use mathlib.Core.Bool.{Bool, true, false, true≢false, and-eq-true_iff}
use mathlib.Core.List.{List, [], ◌∷◌, ◌++◌}
use Prim.Native.Nat.{ℕ, suc, ◌+◌, ◌-◌, ◌<◌}
use native.Mathlib.Nat.{add-zero}
use native.Mathlib.Omega.{arith}
use borrow.Author.Tests.{eq-eqb, lt-ltb, le-leb}
use lib.ListN.{length, get_or, length-append}
use Rattle.spec_tilco.proofs.Lists.{all_nth}
use Rattle.read_bytes.specs.Read.Read.{got}
use Rattle.read_bytes.specs.Bytes.{bytes, byte, name_byte, run_end, every}
use Rattle.read_bytes.proofs.Places.{peek_in}
use Rattle.read_bytes.proofs.Runs.{end_more, end_here}
use Rattle.read_names.specs.Spellings.{find_name}
use Rattle.read_lines.specs.Lines.{in_line, line_end, keyed_at}
use Rattle.read_lines.proofs.KeyedLines.{lf_ends, lf_not}
use Rattle.read_lines.proofs.ValueFirst.{keyed_by}
use Rattle.write_bytes.proofs.Standing.{Standing, starts_one, stands_first, stands_rest, stands_cut}
use Rattle.write_readings.proofs.ReadableNames.{WholeName, Readable, whole_bytes, find_back}
use Rattle.spec_dump.specs.DumpTexts.{var_key, var_text, vars_text, head_text}
use Rattle.spec_dump.specs.DumpLines.{one_of_texts, this_line, timescale_line, var_form, var_name, named_var, var_line, var_lines, head_end, head_lines}

-- A run of bytes that pass P goes on after bytes that pass Q, where P holds of these.
end_after : (P Q : ℕ → Bool) → ((b : ℕ) → Q b ≡ true → P b ≡ true) → {s : List ℕ} (u : ℕ) (v : List ℕ) → Standing s u v → every Q v ≡ true → run_end P s u ≡ run_end P s (u + length v)
unfolding every
end_after P Q sub {s} u [] h e = rw add-zero
end_after P Q sub {s} u (x ∷ v) h e =
    let w = (and-eq-true_iff (Q x) (every Q v)).0 e in
    let a = stands_first (x ∷ []) v h in
    let i : u < length s = omega (arith, a.inside) in
    let y : get_or s u 0 ≡ x = peek_in s u i ∙ sym (starts_one s u x a.bytes) in
    let n : u + 1 + length v ≡ u + suc (length v) = omega arith in
    end_more P s u i (rw y (sub x w.0)) ∙ end_after P Q sub (u + 1) v (stands_rest (x ∷ []) v h) w.1 ∙ ap (run_end P s) n

-- A byte of a name is no LF.
name_in_line : (b : ℕ) → name_byte b ≡ true → in_line b ≡ true
unfolding name_byte
name_in_line b e = lf_not b (λ i. true≢false (sym e ∙ ap name_byte i))

module _ {d : List ℕ} where
  -- A text that stands is keyed.
  keyed_here : {q : ℕ} (w : List ℕ) → Standing d q w → keyed_at d q w ≡ true
  keyed_here {q} w h = sym (keyed_by d q w h.inside) ∙ h.bytes

  -- The first of some texts stands.
  text_here : (p : ℕ) {q : ℕ} (w : List ℕ) (ws : List (List ℕ)) → Standing d q w → one_of_texts d p q (w ∷ ws) ≡ got 0 (q + length w)
  unfolding one_of_texts
  text_here p w ws h = rw (keyed_here w h)

  -- A line that stands.
  line_here : {p : ℕ} (w : List ℕ) → Standing d p w → this_line d p w ≡ got 0 (p + length w)
  line_here {p} w h = text_here p w [] h

  -- The first line.
  timescale_back : Standing d 0 (bytes "$timescale 1 s $end\n") → timescale_line d 0 ≡ got 0 20
  unfolding timescale_line
  timescale_back h =
      let r = stands_rest (bytes "$timescale ") (bytes "1 s $end\n") h in
      let a = text_here 0 (bytes "$timescale ") [] (stands_first (bytes "$timescale ") (bytes "1 s $end\n") h) in
      let b = text_here 0 (bytes "1 ") (bytes "10 " ∷ bytes "100 " ∷ []) (stands_first (bytes "1 ") (bytes "s $end\n") r) in
      let c = text_here 0 (bytes "s $end\n") (bytes "ms $end\n" ∷ bytes "us $end\n" ∷ bytes "ns $end\n" ∷ bytes "ps $end\n" ∷ bytes "fs $end\n" ∷ []) (stands_rest (bytes "1 ") (bytes "s $end\n") r) in
      rw (a, b, c)

  -- The last three.
  end_back : {p : ℕ} → Standing d p (bytes "$upscope $end\n$enddefinitions $end\n#0\n") → head_end d p ≡ got 0 (p + 38)
  unfolding head_end
  end_back {p} h =
      let r = stands_rest (bytes "$upscope $end\n") (bytes "$enddefinitions $end\n#0\n") h in
      let a = line_here (bytes "$upscope $end\n") (stands_first (bytes "$upscope $end\n") (bytes "$enddefinitions $end\n#0\n") h) in
      let b = line_here (bytes "$enddefinitions $end\n") (stands_first (bytes "$enddefinitions $end\n") (bytes "#0\n") r) in
      let c = line_here (bytes "#0\n") (stands_rest (bytes "$enddefinitions $end\n") (bytes "#0\n") r) in
      let n : p + 14 + 21 + 3 ≡ p + 38 = omega arith in
      rw (a, b, c, n)

  -- Where a signal's line ends.
  module _ {p : ℕ} (x : ℕ) (w : List ℕ) (whole : WholeName w) (h : Standing d p (var_text x w)) where
    key : Standing d p (var_key x)
    unfolding var_text
    key = stands_first (var_key x) (w ++ bytes " $end\n") h

    value : Standing d (p + 14) (w ++ bytes " $end\n")
    unfolding var_text var_key
    value = stands_rest (var_key x) (w ++ bytes " $end\n") h

    rest : Standing d (p + 14 + length w) (bytes " $end\n")
    rest = stands_rest w (bytes " $end\n") value

    line_end_lem : line_end d (p + 14) ≡ p + 14 + length w + 5
    unfolding in_line every
    line_end_lem =
        let l = stands_rest (bytes " $end") (bytes "\n") rest in
        let q = p + 14 + length w + 5 in
        let i : q < length d = omega (arith, l.inside) in
        let y : get_or d q 0 ≡ byte "\n" = peek_in d q i ∙ sym (starts_one d q (byte "\n") l.bytes) in
        end_after in_line name_byte name_in_line (p + 14) w (stands_first w (bytes " $end\n") value) (whole_bytes w whole)
        ∙ end_after in_line in_line (λ b e. e) (p + 14 + length w) (bytes " $end") (stands_first (bytes " $end") (bytes "\n") rest) refl
        ∙ end_here in_line d q i (lf_ends (get_or d q 0) y)

    -- Its form,
    form_back : var_form d x p ≡ got (p + 14) (p + 14 + length w + 5)
    unfolding var_form
    form_back =
        let n : p + 14 + length w + 5 - 5 ≡ p + 14 + length w = omega arith in
        rw (keyed_here (var_key x) key, line_end_lem, lt-ltb (p + 14 + length w + 5) (length d) (omega (arith, rest.inside)), le-leb (p + 19) (p + 14 + length w + 5) (omega arith), n, (stands_first (bytes " $end") (bytes "\n") rest).bytes)

    -- and its name.
    name_there : var_name d (p + 14) (p + 14 + length w + 5) ≡ w
    unfolding var_name
    name_there =
        let n : p + 14 + length w + 5 - 5 - (p + 14) ≡ length w = omega arith in
        rw n (stands_cut d (p + 14) w (stands_first w (bytes " $end\n") value))

    var_next : p + 14 + length w + 5 + 1 ≡ p + length (var_text x w)
    unfolding var_text var_key
    var_next = omega (arith, length-append w (bytes " $end\n"))

  module _ (names : List (List ℕ)) (readable : Readable names) where
    -- The line of a signal.
    var_back : {p : ℕ} (x : ℕ) (w : List ℕ) → x < length names → w ≡ get_or names x [] → Standing d p (var_text x w) → var_line names d x p ≡ got x (p + length (var_text x w))
    unfolding var_line named_var
    var_back {p} x w l e h =
        let whole : WholeName w = rw e (all_nth WholeName [] names x readable.whole l) in
        let f : find_name w names ≡ x = rw e (find_back names readable.differ x l) in
        rw (form_back x w whole h, name_there x w whole h, f, eq-eqb x x refl, var_next x w whole h)

    -- Those of the signals from x on, whose names are these.
    vars_back : (ws : List (List ℕ)) (x : ℕ) {p : ℕ} → x + length ws ≡ length names → ((i : ℕ) → get_or ws i [] ≡ get_or names (x + i) []) → Standing d p (vars_text x ws)
        → var_lines names d (length ws) x p ≡ got (length names) (p + length (vars_text x ws))
    unfolding var_lines vars_text
    vars_back [] x {p} l e h = let n : x ≡ length names = omega arith in let z : p + 0 ≡ p = omega arith in rw (n, z)
    vars_back (w ∷ ws) x {p} l e h =
        let a = var_back x w (omega arith) (rw add-zero at (e 0)) (stands_first (var_text x w) (vars_text (suc x) ws) h) in
        let f : (i : ℕ) → get_or ws i [] ≡ get_or names (suc x + i) [] = λ i. let n : suc x + i ≡ x + suc i = omega arith in rw n (e (suc i)) in
        let b = vars_back ws (suc x) (omega arith) f (stands_rest (var_text x w) (vars_text (suc x) ws) h) in
        let n : p + length (var_text x w) + length (vars_text (suc x) ws) ≡ p + length (var_text x w ++ vars_text (suc x) ws) = omega (arith, length-append (var_text x w) (vars_text (suc x) ws)) in
        rw (a, b, n)

    -- All lines up to `#0`.
    pub head_back : Standing d 0 (head_text names) → head_lines names d ≡ got 0 (length (head_text names))
    unfolding head_lines head_text
    head_back h =
        let scale = bytes "$timescale 1 s $end\n" in
        let scope = bytes "$scope module sheet $end\n" in
        let vars = vars_text 0 names in
        let end = bytes "$upscope $end\n$enddefinitions $end\n#0\n" in
        let r = stands_rest scale (scope ++ (vars ++ end)) h in
        let v = stands_rest scope (vars ++ end) r in
        let a = timescale_back (stands_first scale (scope ++ (vars ++ end)) h) in
        let b = line_here scope (stands_first scope (vars ++ end) r) in
        let c = vars_back names 0 (omega arith) (λ i. let z : 0 + i ≡ i = omega arith in rw z) (stands_first vars end v) in
        let e = end_back (stands_rest vars end v) in
        let n : 45 + length vars + 38 ≡ length (head_text names) = omega (arith, length-append vars end) in
        rw (a, b, c, e) (ap (got 0) n)
