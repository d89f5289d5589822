-- Nothing in the module of a thread is called by a reserved word.
use Rattle.std.proofs.Common.{◌≡◌, ℕ, List, [], Bool, true, false, Option, None, Some, codes, refl, sym, ap, subst}
use Rattle.std.specs.Prelude.{slice_get, not, is_some, ◌-◌, ◌+◌, if◌then◌else◌}
use Rattle.std.specs.Str.{bytes_eq}
use Rattle.std.proofs.lemmas.Slice.Eq.{bytes_eq-Decides}
use Rattle.c_program.specs.Tree.{Program}
use Rattle.verilog_tree.specs.Reads.{Each}
use Rattle.verilog_tree.specs.Rules.{all_right}
use Rattle.netlist.specs.declared.netlist.Signal.{Signal}
use Rattle.netlist.specs.declared.netlist.Memory.{Memory}
use Rattle.netlist.specs.declared.netlist.Instance.{Instance}
use Rattle.netlist.specs.declared.netlist.Module.{Module}
use Rattle.thread_slots.specs.declared.shape.Shape.{Shape}
use Rattle.fsm_datapath.specs.Names.{last_number, place_of}
use Rattle.fsm_datapath.specs.SoundLeaf.{IsLeafOf}
use Rattle.fsm_datapath.specs.Thread.{inputs_of}
use Rattle.law_net.specs.Portable.{reserved_words, IsFree, IsFreelyNamed}
use Rattle.law_net.proofs.EachOfLists as each
use Rattle.law_net.proofs.ReservedWords.{free_by, numbered_free}
use Rattle.law_net.proofs.PortableTexts.{freely_named}
use Rattle.law_net.specs.Parts.{thread_module}
use Rattle.program_modules.specs.Numbers.{module_name, name_if}

-- ---- the names of signals

has_no_last : List ℕ → Bool
has_no_last x = not (is_some (last_number x))

words_have_no_last : all_right has_no_last reserved_words ≡ true
unfolding has_no_last reserved_words
words_have_no_last = refl

-- a name that ends in a number
last_free : (x : List ℕ) (n : ℕ) → last_number x ≡ Some n → IsFree x
unfolding has_no_last
last_free x n e = free_by has_no_last x words_have_no_last (ap (λ o. not (is_some o)) e)

five_free : IsFree (codes "clk") × IsFree (codes "en") × IsFree (codes "need") × IsFree (codes "done") × IsFree (codes "beat")
unfolding reserved_words
five_free = (refl, refl, refl, refl, refl)

either : (x w : List ℕ) (p : ℕ) (rest : Option ℕ) (k : ℕ) → IsFree w → (rest ≡ Some k → IsFree x) → (b : Bool) → bytes_eq x w ≡ b → (if b then Some p else rest) ≡ Some k → IsFree x
either x w p rest k free next true e h = subst IsFree (sym ((bytes_eq-Decides x w).0 e)) free
either x w p rest k free next false e h = next h

-- a name that tells a place
place_free : (n inputs : ℕ) (x : List ℕ) (k : ℕ) → place_of n inputs x ≡ Some k → IsFree x
place_free n inputs x k =
    let f = five_free in
    either x (codes "clk") 0 _ k f.0
    (either x (codes "en") 1 _ k f.1
    (either x (codes "need") (n - 2) _ k f.2
    (either x (codes "done") (n - 1) _ k f.3
    (either x (codes "beat") (inputs + 2) (last_number x) k f.4 (last_free x k) (bytes_eq x (codes "beat")) refl) (bytes_eq x (codes "done")) refl)
    (bytes_eq x (codes "need")) refl) (bytes_eq x (codes "en")) refl) (bytes_eq x (codes "clk")) refl

-- ---- the module

function_free : (name : List ℕ) → IsFree (module_name name)
unfolding reserved_words
function_free name = refl

idle_free : IsFree (codes "idle")
unfolding reserved_words
idle_free = refl

pub thread_name_free : (P : Program) (o : Option ℕ) → IsFree (thread_module P o)
thread_name_free P None = idle_free
thread_name_free P (Some f) = function_free (name_if (slice_get P.functions f))

pub routine_free : (shape : Shape) (m : Module) → IsFree m.name → m.instances ≡ [] → IsLeafOf shape m → IsFreelyNamed m
routine_free shape m name alone leaf =
    freely_named m name
    (each.each_from (λ (s : Signal). IsFree s.name) m.signals (λ k s e. place_free _ (inputs_of shape) s.name k (leaf.placed.each k s e).named))
    (each.each_from (λ (c : Memory). IsFree c.name) m.memories (λ j c e. subst IsFree (sym (leaf.arrays j c e)) (numbered_free (codes "array") j)))
    (subst (Each (λ (n : Instance). IsFree n.name)) (sym alone) tt)
