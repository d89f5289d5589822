-- The words of a program's globals in a simulator's state.
use Rattle.std.specs.Prelude.{◌≡◌, ℕ, List, [], ◌∷◌, Option, Some, None}
use Rattle.netlist.specs.declared.netlist.Module.{Module}
use Rattle.verilog_meaning.specs.Names.{top_of}
use Rattle.verilog_meaning.specs.Cycles.{Valuation}
use Rattle.verilog_meaning.specs.Follows.{HasWord}
use Rattle.global_banks.specs.declared.locate.Location.{Location}
use Rattle.global_banks.specs.Banks.{location}
use Rattle.sim_layout.specs.Running.{Running, state_of}

-- the word at a place of the outermost module's banks
abbrev pub global_word : Valuation → Location → ℕ
global_word h l = (h (l.instance ∷ [])).word l.memory l.word

abbrev pub element_at : Valuation → Option Location → Option ℕ
element_at h None = None
element_at h (Some l) = Some (global_word h l)

abbrev pub global_in : List Module → Valuation → List ℕ → ℕ → Option Module → Option ℕ
global_in modules h x j None = None
global_in modules h x j (Some top) = element_at h (location modules top x j)

-- element j of the global x in the state: word `j / K` of its bank `j mod K`, where it has K banks; none where no bank has it
abbrev pub global_of : Running → List ℕ → ℕ → Option ℕ
global_of r x j = global_in r.modules (state_of r) x j (top_of r.modules)

-- in the state, element j of the global x is this word: word `j / K` of bank `j mod K`, where x has K banks
pub record IsWord (r : Running) (x : List ℕ) (j word : ℕ) : Type 0 where
  pub top : Module
  pub is_top : top_of r.modules ≡ Some top
  pub width : ℕ
  pub has : HasWord r.modules top (state_of r) x j width word
