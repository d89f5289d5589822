-- The names in the text of a module are the clock's and those of what the netlist's module has and names.
use Rattle.std.proofs.Common.{ℕ, ◌+◌, List, [], ◌∷◌, ◌++◌, Bool, true, false, Option, Some, None, sym, subst, map}
use Rattle.std.specs.Prelude.{nat_eq, if◌then◌else◌}
use Rattle.std.specs.List.{flat_map}
use Rattle.std.proofs.lemmas.List.Concat.{flat_map-append}
use Rattle.verilog_tree.specs.declared.token.Word.TheVariants as word
use Rattle.verilog_tree.specs.declared.token.Mark.TheVariants as mark
use Rattle.verilog_tree.specs.declared.tree.Constant.{Constant}
use Rattle.verilog_tree.specs.declared.tree.Direction.{Direction}
use Rattle.verilog_tree.specs.declared.tree.Direction.TheVariants as direction
use Rattle.verilog_tree.specs.declared.tree.Expression.TheVariants as e
use Rattle.verilog_tree.specs.declared.tree.InitialConstant.{InitialConstant}
use Rattle.verilog_tree.specs.declared.tree.Item.TheVariants as i
use Rattle.verilog_tree.specs.Grammar.{Tokens, clk, statement_of}
use Rattle.verilog_tree.specs.Grammar as grammar
use Rattle.verilog_tree.specs.Reads.{Each}
use Rattle.verilog_tree.specs.Scope.{Name}
use Rattle.netlist.specs.declared.netlist.Value.{Value}
use Rattle.netlist.specs.declared.netlist.Value.TheVariants as v
use Rattle.netlist.specs.declared.netlist.Source.{Source}
use Rattle.netlist.specs.declared.netlist.Source.TheVariants as source
use Rattle.netlist.specs.declared.netlist.Signal.{Signal}
use Rattle.netlist.specs.declared.netlist.Memory.{Memory}
use Rattle.netlist.specs.declared.netlist.Argument.{Argument}
use Rattle.netlist.specs.declared.netlist.Argument.TheVariants as a
use Rattle.netlist.specs.declared.netlist.Effect.{Effect}
use Rattle.netlist.specs.declared.netlist.Effect.TheVariants as effect
use Rattle.netlist.specs.declared.netlist.Action.{Action}
use Rattle.netlist.specs.declared.netlist.Module.{Module}
use Rattle.netlist.specs.Laid.{operands, memories_read, argument_place, effect_signals, memories_stored}
use Rattle.netlist_text.specs.LaidOut as laid
use Rattle.netlist_text.specs.Portable.{token_names, names_in}
use Rattle.netlist_text.proofs.Actions.{fold_set, fold_store, fold_write, fold_if}
use Rattle.netlist_text.proofs.EachOfLists.{each_append, each_weaker, each_mapped}

module _ (P : Name → Type 0) where
  -- each name among these tokens is one of those
  abbrev pub AreNames : Tokens → Type 0
  AreNames tokens = Each P (names_in tokens)

  pub joined : (xs ys : Tokens) → AreNames xs → AreNames ys → AreNames (xs ++ ys)
  joined xs ys h g = subst (Each P) (sym (flat_map-append token_names xs ys)) (each_append P (names_in xs) (names_in ys) h g)

  -- ---- lists of phrases

  pub all_names : {A : Type 0} (f : A → Tokens) (xs : List A) → Each (λ x. AreNames (f x)) xs → AreNames (grammar.all f xs)
  all_names f [] h = tt
  all_names f (x ∷ xs) h = joined (f x) (grammar.all f xs) h.0 (all_names f xs h.1)

  pub more_names : {A : Type 0} (f : A → Tokens) (xs : List A) → Each (λ x. AreNames (f x)) xs → AreNames (grammar.more f xs)
  more_names f [] h = tt
  more_names f (x ∷ xs) h = joined (f x) (grammar.more f xs) h.0 (more_names f xs h.1)

  pub comma_names : {A : Type 0} (f : A → Tokens) (xs : List A) → Each (λ x. AreNames (f x)) xs → AreNames (grammar.commas f xs)
  comma_names f [] h = tt
  comma_names f (x ∷ xs) h = joined (f x) (grammar.more f xs) h.0 (more_names f xs h.1)

  -- ---- declarations

  pub port_names : (d : Direction) (high : Option ℕ) (x : Name) → P x → AreNames (grammar.port (record { direction = d; high = high; name = x }))
  port_names direction.Input None x p = (p, tt)
  port_names direction.Input (Some high) x p = (p, tt)
  port_names direction.Output None x p = (p, tt)
  port_names direction.Output (Some high) x p = (p, tt)

  pub wire_names : (high : Option ℕ) (x : Name) → P x → AreNames (grammar.item (i.Wire (record { high = high; name = x })))
  wire_names None x p = (p, tt)
  wire_names (Some high) x p = (p, tt)

  pub register_names : (high : Option ℕ) (x : Name) → P x → AreNames (grammar.item (i.Register (record { high = high; name = x })))
  register_names None x p = (p, tt)
  register_names (Some high) x p = (p, tt)

  -- ---- initial constants

  constant_names : (x : Name) (place : Option ℕ) (value : Constant) → P x → AreNames (grammar.initial_constant (record { name = x; word = place; value = value }))
  constant_names x None value p = (p, tt)
  constant_names x (Some k) value p = (p, tt)

  pub initial_names : (cs : List InitialConstant) → Each (λ (c : InitialConstant). P c.name) cs → AreNames (grammar.item (laid.initial_item cs))
  initial_names cs h =
      joined (grammar.all grammar.initial_constant cs) (grammar.word word.End)
      (all_names grammar.initial_constant cs
      (each_weaker (λ (c : InitialConstant). P c.name) (λ c. AreNames (grammar.initial_constant c)) cs (λ c p. constant_names c.name c.word c.value p) h)) tt

  -- ---- of a module: what its signals and memories at these places are called

  module _ (m : Module) where
    abbrev pub IsSignalName : ℕ → Type 0
    IsSignalName x = P (laid.signal_name m x)

    abbrev pub IsMemoryName : ℕ → Type 0
    IsMemoryName j = P (laid.memory_name m j)

    select_names : (x high low : ℕ) (b : Bool) → IsSignalName x →
        AreNames (grammar.expression (if b then e.BitSelect (laid.signal_name m x) high else e.PartSelect (laid.signal_name m x) high low))
    select_names x high low true p = (p, tt)
    select_names x high low false p = (p, tt)

    listed_names : (xs : List ℕ) → Each IsSignalName xs → AreNames (grammar.commas grammar.name (map (laid.signal_name m) xs))
    listed_names xs h =
        comma_names grammar.name (map (laid.signal_name m) xs)
        (each_mapped (λ x. AreNames (grammar.name x)) (laid.signal_name m) xs
        (each_weaker IsSignalName (λ x. AreNames (grammar.name (laid.signal_name m x))) xs (λ x p. (p, tt)) h))

    pub expression_names : (w : ℕ) (right : Value) → Each IsSignalName (operands right) → Each IsMemoryName (memories_read right) →
        AreNames (grammar.expression (laid.expression m w right))
    expression_names w (v.Copy x) p q = p
    expression_names w (v.Constant n) p q = tt
    expression_names w (v.BitwiseNot x) p q = p
    expression_names w (v.Binary operator x y) p q = p
    expression_names w (v.SignedLess x y) p q = p
    expression_names w (v.ArithmeticShiftRight x y) p q = p
    expression_names w (v.Conditional c x y) p q = p
    expression_names w (v.Division operator x y) p q = (p.1.0, p)
    expression_names w (v.SignedDivision operator x y) p q = (p.1.0, p)
    expression_names w (v.MemoryRead j x) p q = (p.0, (q.0, p))
    expression_names w (v.Select x high low) p q = select_names x high low (nat_eq high low) p.0
    expression_names w (v.Concatenation xs) p q =
        joined (grammar.commas grammar.name (map (laid.signal_name m) xs)) (grammar.mark mark.CloseCurly) (listed_names xs p) tt
    expression_names w (v.Replication n x) p q = p

    pub assign_names : (x : Name) (w : ℕ) (right : Value) → P x → Each IsSignalName (operands right) → Each IsMemoryName (memories_read right) →
        AreNames (grammar.item (i.Assign (record { target = x; value = laid.expression m w right })))
    assign_names x w right p h g =
        (p, joined (grammar.expression (laid.expression m w right)) (grammar.mark mark.Semicolon) (expression_names w right h g) tt)

    -- ---- statements

    argument_names : (x : Argument) → IsSignalName (argument_place x) → AreNames (grammar.argument (laid.argument m x))
    argument_names (a.Unsigned x) p = (p, tt)
    argument_names (a.Signed x) p = (p, tt)

    arguments_names : (xs : List Argument) → Each IsSignalName (map argument_place xs) → Each (λ x. AreNames (grammar.argument x)) (map (laid.argument m) xs)
    arguments_names [] h = tt
    arguments_names (x ∷ xs) h = (argument_names x h.0, arguments_names xs h.1)

    effect_names : (x : Effect) → Each IsSignalName (effect_signals x) → Each IsMemoryName (memories_stored x) → AreNames (grammar.statement (laid.effect_statement m x))
    effect_names (effect.Set x y) p q =
        subst AreNames (sym (fold_set Tokens statement_of (laid.signal_name m x) (laid.signal_name m y))) p
    effect_names (effect.Store j x y) p q =
        subst AreNames (sym (fold_store Tokens statement_of (laid.memory_name m j) (laid.signal_name m x) (laid.signal_name m y))) (q.0, p)
    effect_names (effect.Write text xs) p q =
        subst AreNames (sym (fold_write Tokens statement_of text (map (laid.argument m) xs)))
        (joined (grammar.more grammar.argument (map (laid.argument m) xs) ++ grammar.mark mark.CloseRound) (grammar.mark mark.Semicolon)
        (joined (grammar.more grammar.argument (map (laid.argument m) xs)) (grammar.mark mark.CloseRound)
        (more_names grammar.argument (map (laid.argument m) xs) (arguments_names xs p)) tt) tt)

    guarded_names : (cs : List ℕ) (x : Effect) → Each IsSignalName cs → AreNames (grammar.statement (laid.effect_statement m x)) → AreNames (grammar.statement (laid.guarded m cs x))
    guarded_names [] x h p = p
    guarded_names (c ∷ cs) x h p =
        let body = grammar.statement (laid.guarded m cs x) in
        subst AreNames (sym (fold_if Tokens statement_of (laid.signal_name m c) (laid.guarded m cs x)))
        (h.0, joined (body ++ []) (grammar.word word.End) (joined body [] (guarded_names cs x h.1 p) tt) tt)

    -- an action names signals and memories of these names
    pub record NamesThese (x : Action) : Type 0 where
      pub conditions : Each IsSignalName x.conditions
      pub signals : Each IsSignalName (effect_signals x.effect)
      pub memories : Each IsMemoryName (memories_stored x.effect)

    statements_names : (xs : List Action) → Each NamesThese xs → Each (λ x. AreNames (grammar.statement x)) (map (laid.statement m) xs)
    statements_names [] h = tt
    statements_names (x ∷ xs) h =
        (guarded_names x.conditions x.effect h.0.conditions (effect_names x.effect h.0.signals h.0.memories), statements_names xs h.1)

    pub always_names : P clk → Each NamesThese m.actions → AreNames (grammar.item (laid.always_item (map (laid.statement m) m.actions)))
    always_names c h =
        let body = map (laid.statement m) m.actions in
        (c, joined (grammar.all grammar.statement body) (grammar.word word.End) (all_names grammar.statement body (statements_names m.actions h)) tt)

    -- ---- what has initial constants

    register_given : (s : Signal) (from : Source) → P s.name → Each (λ (c : InitialConstant). P c.name) (laid.register_by s from)
    register_given s source.Input p = tt
    register_given s (source.Register n) p = (p, tt)
    register_given s (source.Assigned right) p = tt
    register_given s (source.Port j port) p = tt

    registers_given : (ss : List Signal) → Each (λ (s : Signal). P s.name) ss → Each (λ (c : InitialConstant). P c.name) (flat_map laid.register_constant ss)
    registers_given [] h = tt
    registers_given (s ∷ ss) h =
        each_append (λ (c : InitialConstant). P c.name) (laid.register_constant s) (flat_map laid.register_constant ss) (register_given s s.source h.0) (registers_given ss h.1)

    words_given : (c : Memory) (k : ℕ) (ns : List ℕ) → P c.name → Each (λ (x : InitialConstant). P x.name) (laid.with_places (laid.word_constant c) k ns)
    words_given c k [] p = tt
    words_given c k (n ∷ ns) p = (p, words_given c (k + 1) ns p)

    memories_given : (cs : List Memory) → Each (λ (c : Memory). P c.name) cs → Each (λ (c : InitialConstant). P c.name) (flat_map laid.memory_constants cs)
    memories_given [] h = tt
    memories_given (c ∷ cs) h =
        each_append (λ (x : InitialConstant). P x.name) (laid.memory_constants c) (flat_map laid.memory_constants cs) (words_given c 0 c.initial h.0) (memories_given cs h.1)

    pub constants_given : Each (λ (s : Signal). P s.name) m.signals → Each (λ (c : Memory). P c.name) m.memories → Each (λ (c : InitialConstant). P c.name) (laid.constants m)
    constants_given h g =
        each_append (λ (c : InitialConstant). P c.name) (flat_map laid.register_constant m.signals) (flat_map laid.memory_constants m.memories)
        (registers_given m.signals h) (memories_given m.memories g)
