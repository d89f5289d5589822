-- The module `top` among those of a net.
use Rattle.std.specs.Prelude.{◌≡◌, ℕ, suc, ◌<◌, true, List, ◌∷◌, length, drop, Some, codes}
use Rattle.std.proofs.Common.{sym, ap, ◌∙◌, get_or}
use Rattle.std.proofs.Math.Seq.{drop-cons}
use Rattle.std.specs.Str.{bytes_eq}
use Rattle.std.proofs.lemmas.Option.{slice_get-get_or}
use Rattle.std.proofs.lemmas.Bool.{cond-true}
use Rattle.verilog_meaning.specs.Names.{module_named}
use Rattle.netlist.specs.declared.netlist.Module.{Module}
use Rattle.cycle_sim.specs.Opened.{IsTopNumber}

-- the first module of the name `top`
pub top_here : (modules : List Module) (i : ℕ) (m : Module) → i < length modules → m ≡ get_or modules i m → bytes_eq (codes "top") m.name ≡ true
    → module_named modules (codes "top") ≡ module_named (drop i modules) (codes "top") → IsTopNumber modules i
top_here modules i m l is named e =
    let rest : drop i modules ≡ m ∷ drop (suc i) modules = drop-cons modules i m l ∙ ap (λ (k : Module). k ∷ drop (suc i) modules) (sym is) in
    record {
      top = m;
      is_top = e ∙ ap (λ ms. module_named ms (codes "top")) rest ∙ cond-true (bytes_eq (codes "top") m.name) (Some m) (module_named (drop (suc i) modules) (codes "top")) named;
      stands = slice_get-get_or modules i m l ∙ ap Some (sym is);
    }
