-- `one_of_texts` meets its contract. The invariant: none of the texts so far stands there, so it is one of the others or none. Assumes nothing.
use Rattle.std.proofs.Common.{◌≡◌, map, drop}
use Rattle.spec_dump.specs.DumpLines.{one_of_texts}
use Rattle.dump_lines.proofs.head.one_of_texts.Given as goal

abbrev pub invariant-loop-w : goal.invariant-loop-w
invariant-loop-w l = one_of_texts l.d l.p l.q (map (λ w. w.now) (drop l.w-index l.texts)) ≡ one_of_texts l.d l.p l.q (map (λ w. w.now) l.texts)
