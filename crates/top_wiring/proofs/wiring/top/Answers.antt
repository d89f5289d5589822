use Rattle.std.proofs.Common.{◌≡◌, ℕ, ◌+◌, ◌^◌, ◌<◌, ◌≤◌, List, ◌++◌, length, sym, ap, ◌∙◌, subst}
use Rattle.std.specs.Prelude.{slice_get, slice_index}
use Rattle.top_parts.specs.declared.parts.Part.{Part}
use Rattle.top_parts.specs.Parts.{output_count, parts}
use Rattle.top_parts.specs.Wires.{enables, blocks, starts_from}
use Rattle.top_wiring.specs.Top.{starts}
use Rattle.top_wiring.proofs.Steps.{places_low, counts_few, wires_low}
use Rattle.top_wiring.proofs.wiring.top.Goals as goal

pub invariant_of-places : goal.invariant_of-places
invariant_of-places c =
    let layout = c.args.layout.now in
    let modules = c.args.modules.now in
    let n : c.len-threads.result ≡ length layout.threads = c.len-threads.ensures in
    let k : c.len-cores.result ≡ length layout.cores = c.len-cores.ensures in
    let all : c.in_ok-parts.parts ≡ parts layout = c.in_ok-parts.ensures in
    let listed : c.as_slice.result.now ≡ parts layout = c.as_slice.ensures ∙ all in
    let begun : c.in_ok-laid.laid.starts ≡ starts modules layout =
    c.in_ok-laid.ensures.starts
    ∙ ap (λ (l : List Part). starts_from (2 + c.len-cores.result + length (enables c.len-threads.result)) l) listed
    ∙ ap (λ (z : ℕ). starts_from (2 + z + length (enables c.len-threads.result)) (parts layout)) k
    ∙ ap (λ (z : ℕ). starts_from (2 + length layout.cores + length (enables z)) (parts layout)) n in
    record {
      low = λ j. subst (λ (l : List ℕ). slice_index l j < 2 ^ 33) (sym begun) (places_low modules layout c.requires j);
      few_wires = λ j. subst (λ (l : List Part). output_count (slice_get l j) < 2 ^ 32) (sym all) (counts_few layout c.requires j);
      few_threads = subst (λ (z : ℕ). z ≤ 64) (sym n) c.requires.few_threads;
      few_cores = subst (λ (z : ℕ). z < 2 ^ 16) (sym k) c.requires.few_cores;
    }

pub lay_wires-requires-clause-few : goal.lay_wires-requires-clause-few
lay_wires-requires-clause-few c =
    let layout = c.args.layout.now in
    let modules = c.args.modules.now in
    let n : c.len-threads.result ≡ length layout.threads = c.len-threads.ensures in
    let listed : c.as_slice.result.now ≡ parts layout = c.as_slice.ensures ∙ c.in_ok-parts.ensures in
    subst (λ (t : ℕ). length (enables t ++ blocks modules c.as_slice.result.now) < 2 ^ 32) (sym n)
    (subst (λ (l : List Part). length (enables (length layout.threads) ++ blocks modules l) < 2 ^ 32) (sym listed) (wires_low modules layout c.requires))
