-- Where the parts of a module stand, and what a reading shows there.
use Rattle.std.proofs.Common.{◌≡◌, ℕ, zero, suc, ◌+◌, ◌-◌, ◌<◌, ◌^◌, Bool, true, false, if◌then◌else◌, List, [], ◌∷◌, length, map, slice_get, Option, Some, None, refl, sym}
use Rattle.std.proofs.Common.{ap, subst, ◌∙◌, arith, length-append, ◌++◌, ◌≤◌, take, ⊎_elim}
use Rattle.std.proofs.lemmas.Bool.{cases_lt}
use Rattle.std.specs.Prelude.{option_map, slice_index}
use Rattle.std.proofs.lemmas.List.{length-map}
use Rattle.std.proofs.lemmas.Option.{slice_get_within, slice_get-map, slice_get-get_or}
use Rattle.lists.proofs.Places.{get_there, copies_there}
use Rattle.hls_ints.specs.Residues.{bit_of}
use Rattle.hls_ints.specs.Types.{IntegerType, width_of}
use Rattle.bank_partition.specs.declared.banks.Spread.{Spread}
use Rattle.thread_promise.specs.Globals.{bank_total}
use Rattle.block_ir.specs.declared.code.ThreadCode.{ThreadCode}
use Rattle.block_ir.specs.declared.plan.Planned.{Planned}
use Rattle.netlist.specs.declared.netlist.Value.TheVariants.{Copy}
use Rattle.netlist.specs.declared.netlist.Source.{Source}
use Rattle.netlist.specs.declared.netlist.Source.TheVariants.{Input, Register, Assigned}
use Rattle.netlist.specs.declared.netlist.Signal.{Signal}
use Rattle.netlist.specs.declared.netlist.Module.{Module}
use Rattle.verilog_meaning.specs.Readings.{Reading, width, signal_width, initial_reading, initial_signal, initial_number}
use Rattle.verilog_meaning.specs.Cycles.{IsRegister}
use Rattle.circuit.specs.Modules.{Obeys, Agree}
use Rattle.operator_wires.specs.Gives.{Grows}
use Rattle.operator_wires.proofs.PutSignals.{grows_then}
use Rattle.block_datapath.specs.declared.registers.Held.{Held}
use Rattle.thread_slots.specs.declared.shape.Shape.{Shape}
use Rattle.thread_slots.specs.Slots.{StandsAt}
use Rattle.block_datapath.specs.declared.requests.BankRequests.{BankRequests}
use Rattle.thread_requests.specs.declared.outputs.Row.{Row}
use Rattle.thread_requests.specs.Outputs.{CopiesAt, joined, request_row, field_row, rows_at, fields_from, act_rows, acts_from, rows_of}
use Rattle.thread_slots.specs.Wired.{field_width}
use Rattle.thread_states.specs.Acts.{IsTypedArgument}
use Rattle.thread_layout.specs.Modules.{IsModule}
use Rattle.block_ir.specs.declared.service.Service.{Service}
use Rattle.thread_slots.specs.Requests.{group}
use Rattle.thread_slots.specs.Services.{services, number_width, value_count}
use Rattle.thread_slots.specs.Hearing.{IsHeard}
use Rattle.thread_requests.specs.Early.{act_count, held_width, spread_out}
use Rattle.leaf_machine.specs.Ports.{asks_of, thread_outputs}
use Rattle.thread_layout.specs.Thread.{cores_of, inputs_of, bank_port, act_port, core_ports, first_output, port_at, need_at, done_at, IsServed}
use Rattle.thread_slots.proofs.LaidRegisters.{stands_later}
use Rattle.thread_layout.proofs.Insides.{heard_widths, widths_same}
use Rattle.thread_layout.proofs.CoreRows.{HaveWidths, own_asks, joined_there, place_of_rows, all_count, rows_widths, acts_widths, bank_there, act_there, field_there}
use Rattle.thread_layout.proofs.Cores.{services_count}
use Rattle.block_datapath.specs.Requests.{AreAsMany}
use Rattle.thread_slots.specs.declared.requests.Request.{Request}
use Rattle.thread_requests.proofs.AllAsks.{group_kept}
use Rattle.thread_requests.proofs.SpreadBanks.{spread_there, spread_count}

-- ---- a signal that stands at a place

module _ (m : Module) where
  pub stands_wide : (place w : ℕ) (d : Source) → StandsAt m.signals place w d → width m place ≡ w
  stands_wide place w d t = ap signal_width t.listed ∙ t.wide

  pub stands_fits : (r : Reading) (place w : ℕ) (d : Source) → Obeys m r → StandsAt m.signals place w d → r.signal place < 2 ^ w
  stands_fits r place w d o t = subst (λ (n : ℕ). r.signal place < 2 ^ n) t.wide (o.within place t.signal t.listed)

  pub stands_agrees : (h g : Reading) (place w n : ℕ) → Agree m h g → StandsAt m.signals place w (Register n) → h.signal place ≡ g.signal place
  stands_agrees h g place w n a t = a.registers place t.signal t.listed (subst (λ (d : Source). IsRegister d) (sym t.drives) tt)

  pub stands_copies : (r : Reading) (place w of : ℕ) → Obeys m r → CopiesAt m.signals place w of → r.signal place ≡ r.signal of
  stands_copies r place w of o t = o.equations place t.signal (Copy of) t.listed t.drives

  pub stands_begins : (place w n : ℕ) → StandsAt m.signals place w (Register n) → (initial_reading (Some m)).signal place ≡ n
  stands_begins place w n t = ap initial_signal t.listed ∙ ap initial_number t.drives

small : (n : ℕ) → n < 2 ^ 1 → (b : Bool) × (n ≡ bit_of b)
small zero h = (false, refl)
small (suc zero) h = (true, refl)
small (suc (suc n)) h = absurd (omega arith)

by_signal : (m : Module) (r : Reading) (x : ℕ) (s : Option Signal) → Obeys m r → slice_get m.signals x ≡ s → signal_width s ≡ 1 → (b : Bool) × (r.signal x ≡ bit_of b)
by_signal m r x None o e w = absurd (omega arith)
by_signal m r x (Some s) o e w = small (r.signal x) (subst (λ (n : ℕ). r.signal x < 2 ^ n) w (o.within x s e))

-- a signal of one bit is a bit
pub wide_bit : (m : Module) (r : Reading) (x : ℕ) → Obeys m r → width m x ≡ 1 → (b : Bool) × (r.signal x ≡ bit_of b)
wide_bit m r x o w = by_signal m r x (slice_get m.signals x) o refl w

-- the ports of bank k, whose words have this width, at these places
pub record HasBankOutputs (signals : List Signal) (at : ℕ → ℕ) (asks : List ℕ) (banks : BankRequests) (k w : ℕ) : Type 0 where
  pub at_ask : CopiesAt signals (at 0) 1 (slice_index asks k)
  pub at_writes : CopiesAt signals (at 1) 1 (slice_index banks.writes k)
  pub at_address : CopiesAt signals (at 2) 64 (slice_index banks.addresses k)
  pub at_value : CopiesAt signals (at 3) w (slice_index banks.values k)

-- ---- the module of a thread

module _ (shape : Shape) (code : ThreadCode) (plan : Planned) (m : Module) (t : IsModule shape code plan m) (served : IsServed shape code plan) where
  abbrev pub banks : ℕ
  banks = bank_total shape.spreads

  -- the registers stand behind so many inputs
  abbrev pub behind : ℕ
  behind = inputs_of shape

  -- its variable has room for the argument
  pub no_argument : shape.is_main ≡ false → IsTypedArgument code.argument code.variables
  no_argument = served.argument

  -- the first stage
  abbrev pub first_stage : ℕ
  first_stage = if shape.is_main then 0 else length code.stages

  pub from_control : Grows t.closed.with_control m.signals
  from_control = grows_then t.closed.with_control t.closed.outputs.with_rows m.signals t.closed.outputs.rows.grows t.closed.outputs.grows

  pub from_inside : Grows t.with_inside m.signals
  from_inside = grows_then t.with_inside t.closed.with_control m.signals t.closed.controls.grows from_control

  pub from_rest : Grows t.laid.with_rest m.signals
  from_rest = grows_then t.laid.with_rest t.with_inside m.signals t.laid.waits.grows from_inside

  pub from_start : Grows t.laid.with_start m.signals
  from_start = grows_then t.laid.with_start t.laid.with_rest m.signals t.laid.walks.grows from_rest

  pub from_told : Grows t.laid.with_told m.signals
  from_told = grows_then t.laid.with_told t.laid.with_start m.signals t.laid.begins.grows from_start

  pub from_heard : Grows t.laid.with_heard m.signals
  from_heard = grows_then t.laid.with_heard t.laid.with_units m.signals t.laid.units.grows
      (grows_then t.laid.with_units t.laid.with_told m.signals t.laid.tells.grows from_told)

  pub from_words_heard : Grows t.laid.with_words_heard m.signals
  from_words_heard = grows_then t.laid.with_words_heard t.laid.with_heard m.signals t.laid.hears_news.grows from_heard

  pub from_early : Grows t.laid.with_early m.signals
  from_early = grows_then t.laid.with_early t.laid.with_words_heard m.signals t.laid.hears.grows from_words_heard

  pub from_slot : Grows t.laid.with_slot m.signals
  from_slot = grows_then t.laid.with_slot t.laid.with_early m.signals t.laid.early.grows from_early

  pub from_registers : Grows t.laid.with_registers m.signals
  from_registers = grows_then t.laid.with_registers t.laid.with_slot m.signals t.laid.granted.grows from_slot

  pub from_inputs : Grows t.laid.with_inputs m.signals
  from_inputs = grows_then t.laid.with_inputs t.laid.with_registers m.signals t.laid.slot.grows from_registers

  pub from_words : Grows t.laid.with_words m.signals
  from_words = grows_then t.laid.with_words t.laid.with_inputs m.signals t.laid.news_stand.grows from_inputs

  pub from_ports : Grows t.laid.with_ports m.signals
  from_ports = grows_then t.laid.with_ports t.laid.with_words m.signals t.laid.words.grows from_words

  pub bank_count : length (spread_out shape.spreads (map width_of shape.globals)) ≡ banks
  bank_count = spread_count shape.spreads (map width_of shape.globals) (length-map shape.globals width_of ∙ sym served.spreads.count)

  pub told_count : length t.laid.told ≡ banks
  told_count = t.laid.words.count ∙ bank_count

  pub words_count : length t.inside.slot.words ≡ banks
  words_count = t.laid.hears.count ∙ told_count

  pub cores : length (spread_out shape.spreads (map width_of shape.globals)) + length (services shape.served) ≡ cores_of shape
  cores = let one = bank_count in let two = services_count shape.served in omega arith

  pub ports_long : length t.laid.with_ports ≡ 2 + cores_of shape
  ports_long =
      let long : length t.laid.with_ports ≡ 2 + (length (spread_out shape.spreads (map width_of shape.globals)) + length (services shape.served)) = t.laid.inputs.long in
      let count = cores in
      omega arith

  pub inputs_long : length t.laid.with_inputs ≡ behind
  inputs_long = let one = t.laid.words.long in let more = t.laid.news_stand.long in let two = ports_long in let three = bank_count in omega arith

  -- what is asked of each global, and of each bank
  pub whole_many : AreAsMany (length t.inside.slot.spreads) t.laid.early.asked.whole
  whole_many =
      subst (λ n. AreAsMany n t.laid.early.asked.whole) (length-map shape.globals width_of ∙ sym served.spreads.count ∙ ap length (sym t.laid.slot.spreads_are))
      (t.laid.early.asked.asks.many.banks (length (map width_of shape.globals)) t.laid.early.asked.begins.many)

  pub banks_many : AreAsMany banks t.inside.early.requests.banks
  banks_many = subst (λ l. AreAsMany (bank_total l) t.inside.early.requests.banks) t.laid.slot.spreads_are (t.laid.early.asked.spreads.many whole_many)

  -- as many requests as cores
  pub opens_count : length t.inside.early.opens ≡ cores_of shape
  opens_count =
      let wanted : length t.inside.early.requests.banks.wants ≡ banks = banks_many.wants in
      let own : length t.laid.early.bank_opens ≡ banks = t.laid.early.opens.count ∙ wanted in
      let acts : length t.laid.early.acts.opens ≡ act_count shape.served = t.laid.early.opens_acts.count in
      ap length t.laid.early.open_is ∙ length-append t.laid.early.bank_opens t.laid.early.acts.opens
      ∙ (let sum : length t.laid.early.bank_opens + length t.laid.early.acts.opens ≡ cores_of shape = omega arith in sum)

  -- inputs
  pub enable_at : t.inside.inputs.enable ≡ 1
  enable_at = t.laid.inputs.enable

  pub enable_stands : StandsAt m.signals 1 1 Input
  enable_stands = stands_later t.laid.with_ports m.signals 1 1 Input from_ports t.laid.inputs.enable_stands

  pub grant_at : (k : ℕ) → k < cores_of shape → slice_index t.inside.inputs.grants k ≡ 2 + k
  grant_at k less = t.laid.inputs.grants k (subst (λ n. k < n) (sym cores) less)

  pub grant_stands : (k : ℕ) → k < cores_of shape → StandsAt m.signals (2 + k) 1 Input
  grant_stands k less = stands_later t.laid.with_ports m.signals (2 + k) 1 Input from_ports (t.laid.inputs.grants_stand k (subst (λ n. k < n) (sym cores) less))

  -- the word of bank k of a global: where it is told, and what is heard of it
  pub record HasWord (n w : ℕ) : Type 0 where
    pub held : Held
    pub listed : slice_get t.inside.slot.words n ≡ Some held
    pub wide : held.width ≡ w
    pub told : Held
    pub own : told.width ≡ w
    pub heard : IsHeard t.laid.with_words_heard t.inside.early.need told held
    pub at : told.register ≡ 2 + cores_of shape + n
    pub stands : StandsAt m.signals (2 + cores_of shape + n) w Input

  pub word_held : (x k : ℕ) (s : Spread) (ty : IntegerType) → slice_get shape.spreads x ≡ Some s → slice_get shape.globals x ≡ Some ty → k < s.count →
      HasWord (s.first + k) (width_of ty)
  word_held x k s ty listed declared less =
      let wide : slice_get (map width_of shape.globals) x ≡ Some (width_of ty) = slice_get-map width_of shape.globals x ∙ ap (option_map width_of) declared in
      let there : slice_get (spread_out shape.spreads (map width_of shape.globals)) (s.first + k) ≡ Some (width_of ty) =
      ap (λ (n : ℕ). slice_get (spread_out shape.spreads (map width_of shape.globals)) (n + k)) (served.spreads.firsts x s listed)
      ∙ spread_there shape.spreads (map width_of shape.globals) x k (width_of ty) s listed wide less in
      let f = t.laid.words.each (s.first + k) (width_of ty) (slice_get_within (spread_out shape.spreads (map width_of shape.globals)) (s.first + k) (width_of ty) there) there in
      let place : length t.laid.with_ports + (s.first + k) ≡ 2 + cores_of shape + (s.first + k) = (let e = ports_long in omega arith) in
      let g = t.laid.hears.each (s.first + k) f.0 (slice_get_within t.laid.told (s.first + k) f.0 f.1) f.1 in
      record {
        held = g.0;
        listed = g.1;
        wide = g.2.says ∙ f.2;
        told = f.0;
        own = f.2;
        heard = g.2;
        at = f.3 ∙ place;
        stands =
            subst (λ (n : ℕ). StandsAt m.signals n (width_of ty) Input) place
            (stands_later t.laid.with_words m.signals (length t.laid.with_ports + (s.first + k)) (width_of ty) Input from_words f.4);
      }

  -- the stage, the state and the beat
  pub stage_at : t.inside.slot.stage.register ≡ behind
  stage_at = t.laid.slot.stage.register ∙ inputs_long

  pub stage_stands : StandsAt m.signals behind t.inside.slot.stage.width (Register first_stage)
  stage_stands =
      stands_later t.laid.with_registers m.signals behind t.inside.slot.stage.width (Register first_stage) from_registers
      (subst (λ (x : ℕ). StandsAt t.laid.with_registers x t.inside.slot.stage.width (Register first_stage)) inputs_long t.laid.slot.stage.stands)

  pub state_at : t.inside.slot.state.register ≡ behind + 1
  state_at = t.laid.slot.state.register ∙ ap (λ (n : ℕ). n + 1) inputs_long

  pub state_stands : StandsAt m.signals (behind + 1) t.inside.slot.state.width (Register 0)
  state_stands =
      stands_later t.laid.with_registers m.signals (behind + 1) t.inside.slot.state.width (Register 0) from_registers
      (subst (λ (x : ℕ). StandsAt t.laid.with_registers x t.inside.slot.state.width (Register 0)) (ap (λ (n : ℕ). n + 1) inputs_long) t.laid.slot.state.stands)

  pub beat_at : t.inside.slot.beat ≡ behind + 2
  beat_at = t.laid.slot.beat ∙ ap (λ (n : ℕ). n + 2) inputs_long

  pub beat_stands : StandsAt m.signals (behind + 2) 1 (Register 0)
  beat_stands =
      stands_later t.laid.with_registers m.signals (behind + 2) 1 (Register 0) from_registers
      (subst (λ (x : ℕ). StandsAt t.laid.with_registers x 1 (Register 0)) (ap (λ (n : ℕ). n + 2) inputs_long) t.laid.slot.beat_stands)

  -- variables and registers for values
  pub record HasVariable (x : ℕ) (ty : IntegerType) : Type 0 where
    pub held : Held
    pub listed : slice_get t.inside.slot.variables x ≡ Some held
    pub wide : held.width ≡ width_of ty
    pub at : held.register ≡ behind + 3 + x
    pub stands : StandsAt m.signals (behind + 3 + x) (width_of ty) (Register 0)

  pub variable_held : (x : ℕ) (ty : IntegerType) → slice_get code.variables x ≡ Some ty → HasVariable x ty
  variable_held x ty declared =
      let less = slice_get_within code.variables x ty declared in
      let wide : slice_get (map width_of code.variables) x ≡ Some (width_of ty) = slice_get-map width_of code.variables x ∙ ap (option_map width_of) declared in
      let f = t.laid.slot.variables x (width_of ty) less wide in
      let place : length t.laid.with_inputs + 3 + x ≡ behind + 3 + x = ap (λ (n : ℕ). n + 3 + x) inputs_long in
      record {
        held = f.0;
        listed = f.1;
        wide = f.2;
        at = f.3 ∙ place;
        stands =
            subst (λ (n : ℕ). StandsAt m.signals n (width_of ty) (Register 0)) place
            (stands_later t.laid.with_registers m.signals (length t.laid.with_inputs + 3 + x) (width_of ty) (Register 0) from_registers f.4);
      }

  pub record HasKept (x : ℕ) : Type 0 where
    pub held : Held
    pub listed : slice_get t.inside.slot.kept x ≡ Some held
    pub planned : slice_get t.laid.kept_widths x ≡ Some held.width
    pub at : held.register ≡ behind + 3 + length code.variables + x
    pub stands : StandsAt m.signals (behind + 3 + length code.variables + x) held.width (Register 0)

  pub kept_held : (x : ℕ) → x < length t.laid.kept_widths → HasKept x
  kept_held x less =
      let w = slice_get-get_or t.laid.kept_widths x 0 less in
      let f = t.laid.slot.kept x _ less w in
      let place : length t.laid.with_inputs + 3 + length code.variables + x ≡ behind + 3 + length code.variables + x = ap
      (λ (n : ℕ). n + 3 + length code.variables + x) inputs_long in
      record {
        held = f.0;
        listed = f.1;
        planned = w ∙ ap Some (sym f.2);
        at = f.3 ∙ place;
        stands =
            subst (λ (n : ℕ). StandsAt m.signals n f.0.width (Register 0)) place
            (subst (λ (n : ℕ). StandsAt m.signals (length t.laid.with_inputs + 3 + length code.variables + x) n (Register 0)) (sym f.2)
            (stands_later t.laid.with_registers m.signals (length t.laid.with_inputs + 3 + length code.variables + x) _ (Register 0) from_registers f.4));
      }

  pub kept_within : (x : ℕ) → x < plan.registers → x < length t.laid.kept_widths
  kept_within x less = subst (λ (n : ℕ). x < n) (sym t.laid.kept.count) less

  -- the bit of each global
  pub registers_long : length t.laid.with_registers ≡ behind + 3 + length code.variables + plan.registers
  registers_long =
      let one = t.laid.registers_long in let two = inputs_long in let three = t.laid.kept.count in omega arith

  pub record HasMark (x : ℕ) : Type 0 where
    pub held : Held
    pub listed : slice_get t.inside.granted x ≡ Some held
    pub wide : held.width ≡ 1
    pub at : held.register ≡ behind + 3 + length code.variables + plan.registers + x
    pub stands : StandsAt m.signals (behind + 3 + length code.variables + plan.registers + x) 1 (Register 0)

  pub mark_held : (x : ℕ) → x < length shape.globals → HasMark x
  mark_held x less =
      let f = t.laid.granted.each x 1 less (copies_there (length shape.globals) 1 x less) in
      let place : length t.laid.with_registers + x ≡ behind + 3 + length code.variables + plan.registers + x = ap (λ (n : ℕ). n + x) registers_long in
      record {
        held = f.0;
        listed = f.1;
        wide = f.2;
        at = f.3 ∙ place;
        stands =
            subst (λ (n : ℕ). StandsAt m.signals n 1 (Register 0)) place
            (stands_later t.laid.with_slot m.signals (length t.laid.with_registers + x) 1 (Register 0) from_slot f.4);
      }

  -- the same, for the statements of an edge
  pub variables_at : (i : ℕ) (h : Held) → slice_get t.inside.slot.variables i ≡ Some h → h.register ≡ behind + 3 + i
  variables_at i h listed =
      let less : i < length code.variables = subst (λ (n : ℕ). i < n) t.laid.slot.variables_count (slice_get_within t.inside.slot.variables i h listed) in
      let found = get_there code.variables i less in
      let v = variable_held i found.0 found.1 in
      let same : v.held ≡ h = (let e = v.listed in cc) in
      ap (λ (k : Held). k.register) (sym same) ∙ v.at

  pub kept_at : (i : ℕ) (h : Held) → slice_get t.inside.slot.kept i ≡ Some h → h.register ≡ behind + 3 + length t.inside.slot.variables + i
  kept_at i h listed =
      let less : i < length t.laid.kept_widths = subst (λ (n : ℕ). i < n) t.laid.slot.kept_count (slice_get_within t.inside.slot.kept i h listed) in
      let v = kept_held i less in
      let same : v.held ≡ h = (let e = v.listed in cc) in
      let count = t.laid.slot.variables_count in
      ap (λ (k : Held). k.register) (sym same) ∙ v.at ∙ ap (λ (n : ℕ). behind + 3 + n + i) (sym count)

  pub granted_at : (i : ℕ) (h : Held) → slice_get t.inside.granted i ≡ Some h → h.register ≡ behind + 3 + length t.inside.slot.variables + length t.inside.slot.kept + i
  granted_at i h listed =
      let less : i < length shape.globals = subst (λ (n : ℕ). i < n) t.laid.granted.count (slice_get_within t.inside.granted i h listed) in
      let v = mark_held i less in
      let same : v.held ≡ h = (let e = v.listed in cc) in
      let variables = t.laid.slot.variables_count in
      let kept : length t.inside.slot.kept ≡ plan.registers = t.laid.slot.kept_count ∙ t.laid.kept.count in
      ap (λ (k : Held). k.register) (sym same) ∙ v.at ∙ ap (λ (n : ℕ). behind + 3 + n + plan.registers + i) (sym variables)
      ∙ ap (λ (n : ℕ). behind + 3 + length t.inside.slot.variables + n + i) (sym kept)

  -- outputs
  pub fields_count : (s : Service) → length (group t.inside.early.requests s).fields ≡ suc (value_count shape.served s)
  fields_count s =
      ap (λ (q : Request). length q.fields) (sym (group_kept t.inside.early.requests t.laid.early.asked.whole s)) ∙ t.laid.early.asked.asks.many.fields s
      ∙ t.laid.early.asked.begins.counts s

  -- what cores are asked
  abbrev pub rows : List (List Row)
  rows = rows_of shape.served t.inside.slot.words t.edge.asks t.inside.early.requests

  words_wide : map held_width t.inside.slot.words ≡ spread_out shape.spreads (map width_of shape.globals)
  words_wide =
      heard_widths t.laid.told t.inside.slot.words t.laid.with_early t.laid.with_words_heard t.inside.early.need t.laid.hears
      ∙ widths_same t.laid.with_ports t.laid.with_words (spread_out shape.spreads (map width_of shape.globals)) t.laid.told t.laid.words

  pub widths_are : HaveWidths rows (core_ports shape)
  widths_are =
      rows_widths t.edge.asks t.inside.early.requests.banks 0 t.inside.slot.words
      (acts_from shape.served t.edge.asks t.inside.early.requests (length t.inside.slot.words) (services shape.served)) (map (act_port shape.served) (services shape.served))
      (acts_widths shape.served t.edge.asks t.inside.early.requests (length t.inside.slot.words) (services shape.served) fields_count)
      ∙ ap (λ l. map own_asks (map bank_port l ++ map (act_port shape.served) (services shape.served))) words_wide

  pub ports_count : length (core_ports shape) ≡ cores_of shape
  ports_count =
      length-append (map bank_port (spread_out shape.spreads (map width_of shape.globals))) (map (act_port shape.served) (services shape.served))
      ∙ ap (λ n. n + length (map (act_port shape.served) (services shape.served))) (length-map (spread_out shape.spreads (map width_of shape.globals)) bank_port)
      ∙ ap (λ n. length (spread_out shape.spreads (map width_of shape.globals)) + n) (length-map (services shape.served) (act_port shape.served)) ∙ cores

  pub all_long : length m.signals ≡ length t.closed.with_control + length (thread_outputs (core_ports shape))
  all_long =
      let long = t.closed.outputs.long in
      let own = t.closed.outputs.rows.long in
      let count = all_count rows (core_ports shape) widths_are in
      let more : length (thread_outputs (core_ports shape)) ≡ length (asks_of (core_ports shape)) + 2 = length-append (asks_of (core_ports shape)) (1 ∷ 1 ∷ []) in
      omega arith

  pub before_outputs : length t.closed.with_control ≡ first_output shape m
  before_outputs = let long = all_long in omega arith

  pub before_need : length t.closed.outputs.with_rows ≡ need_at shape m
  before_need =
      let own = t.closed.outputs.rows.long in
      let count = all_count rows (core_ports shape) widths_are in
      let before = before_outputs in
      omega arith

  -- each row is copied
  pub row_copies : (x : ℕ) (row : Row) → slice_get (joined rows) x ≡ Some row → CopiesAt m.signals (first_output shape m + x) row.width row.source
  row_copies x row there =
      subst (λ (n : ℕ). CopiesAt m.signals (n + x) row.width row.source) before_outputs
      (stands_later t.closed.outputs.with_rows m.signals (length t.closed.with_control + x) row.width (Assigned (Copy row.source)) t.closed.outputs.grows
      (t.closed.outputs.rows.each x row (slice_get_within (joined rows) x row there) there))

  -- row j of core k where it is asked number j
  pub port_copies : (k j : ℕ) (own : List Row) (row : Row) → slice_get rows k ≡ Some own → slice_get own j ≡ Some row → CopiesAt m.signals (port_at shape m k j) row.width row.source
  port_copies k j own row listed there =
      subst (λ (n : ℕ). CopiesAt m.signals (first_output shape m + (n + j)) row.width row.source) (sym (place_of_rows rows (core_ports shape) widths_are k))
      (row_copies (length (joined (take k rows)) + j) row (joined_there rows k j own row listed there))

  pub bank_listed : (n : ℕ) (h : Held) → slice_get t.inside.slot.words n ≡ Some h → slice_get rows n ≡ Some (rows_at t.edge.asks t.inside.early.requests.banks n h.width)
  bank_listed n h listed =
      bank_there t.edge.asks t.inside.early.requests.banks 0 t.inside.slot.words _ n h listed
      ∙ ap (λ k. Some (rows_at t.edge.asks t.inside.early.requests.banks k h.width)) (let z : 0 + n ≡ n = omega arith in z)

  bank_row : (n j : ℕ) (h : Held) (row : Row) → slice_get t.inside.slot.words n ≡ Some h
      → slice_get (rows_at t.edge.asks t.inside.early.requests.banks n h.width) j ≡ Some row → CopiesAt m.signals (port_at shape m n j) row.width row.source
  bank_row n j h row listed there = port_copies n j (rows_at t.edge.asks t.inside.early.requests.banks n h.width) row (bank_listed n h listed) there

  -- the ports of bank n
  pub bank_asked : (n : ℕ) (h : Held) → slice_get t.inside.slot.words n ≡ Some h
      → HasBankOutputs m.signals (port_at shape m n) t.edge.asks t.inside.early.requests.banks n h.width
  bank_asked n h listed = record {
    at_ask = bank_row n 0 h (request_row (slice_index t.edge.asks n)) listed refl;
    at_writes = bank_row n 1 h (field_row 1 (slice_index t.inside.early.requests.banks.writes n)) listed refl;
    at_address = bank_row n 2 h (field_row 64 (slice_index t.inside.early.requests.banks.addresses n)) listed refl;
    at_value = bank_row n 3 h (field_row h.width (slice_index t.inside.early.requests.banks.values n)) listed refl;
  }

  -- of bank k of a global
  pub bank_outputs : (x k : ℕ) (s : Spread) (ty : IntegerType) → slice_get shape.spreads x ≡ Some s → slice_get shape.globals x ≡ Some ty → k < s.count
      → HasBankOutputs m.signals (port_at shape m (s.first + k)) t.edge.asks t.inside.early.requests.banks (s.first + k) (width_of ty)
  bank_outputs x k s ty listed declared less =
      let w = word_held x k s ty listed declared less in
      subst (λ (n : ℕ). HasBankOutputs m.signals (port_at shape m (s.first + k)) t.edge.asks t.inside.early.requests.banks (s.first + k) n) w.wide
      (bank_asked (s.first + k) w.held w.listed)

  -- core n of those that acts ask
  module _ (n : ℕ) (k : Service) (own : slice_get (services shape.served) n ≡ Some k) where
    abbrev pub own_act_rows : List Row
    own_act_rows = act_rows shape.served (slice_index t.edge.asks (banks + n)) t.inside.early.requests k

    pub act_listed : slice_get rows (banks + n) ≡ Some own_act_rows
    act_listed =
        ap (λ j. slice_get rows (j + n)) (sym words_count) ∙ act_there shape.served t.inside.slot.words t.edge.asks t.inside.early.requests n k own
        ∙ ap (λ j. Some (act_rows shape.served (slice_index t.edge.asks (j + n)) t.inside.early.requests k)) words_count

    act_ask : CopiesAt m.signals (port_at shape m (banks + n) 0) 1 (slice_index t.edge.asks (banks + n))
    act_ask = port_copies (banks + n) 0 own_act_rows (request_row (slice_index t.edge.asks (banks + n))) act_listed refl

    -- what it is asked for
    pub field_stands : (j x : ℕ) → slice_get (group t.inside.early.requests k).fields j ≡ Some x
        → CopiesAt m.signals (port_at shape m (banks + n) (suc j)) (field_width (number_width shape.served k) j) x
    field_stands j x listed =
        let w = number_width shape.served k in
        let fields = (group t.inside.early.requests k).fields in
        let there : slice_get (fields_from w 0 fields) j ≡ Some (field_row (field_width w j) x) =
        field_there w 0 fields j x listed ∙ ap (λ i. Some (field_row (field_width w i) x)) (let z : 0 + j ≡ j = omega arith in z) in
        port_copies (banks + n) (suc j) own_act_rows (field_row (field_width w j) x) act_listed there

  -- whether core k is asked
  pub ask_stands : (k : ℕ) → k < cores_of shape → CopiesAt m.signals (port_at shape m k 0) 1 (slice_index t.edge.asks k)
  ask_stands k less = ⊎_elim bank last (cases_lt k banks)
    where
      bank : k < banks → CopiesAt m.signals (port_at shape m k 0) 1 (slice_index t.edge.asks k)
      bank inside =
          let h = get_there t.inside.slot.words k (subst (λ n. k < n) (sym words_count) inside) in
          (bank_asked k h.0 h.1).at_ask

      last : banks ≤ k → CopiesAt m.signals (port_at shape m k 0) 1 (slice_index t.edge.asks k)
      last past =
          let count = services_count shape.served in
          let own = get_there (services shape.served) (k - banks) (omega arith) in
          let same : banks + (k - banks) ≡ k = omega arith in
          subst (λ n. CopiesAt m.signals (port_at shape m n 0) 1 (slice_index t.edge.asks n)) same (act_ask (k - banks) own.0 own.1)

  pub ask_copied : (r : Reading) (k : ℕ) → Obeys m r → k < cores_of shape → r.signal (port_at shape m k 0) ≡ r.signal (slice_index t.edge.asks k)
  ask_copied r k o less = stands_copies m r (port_at shape m k 0) 1 (slice_index t.edge.asks k) o (ask_stands k less)

  pub need_stands : CopiesAt m.signals (need_at shape m) 1 t.inside.early.need
  need_stands = subst (λ (n : ℕ). CopiesAt m.signals n 1 t.inside.early.need) before_need t.closed.outputs.need

  pub done_stands : CopiesAt m.signals (done_at shape m) 1 t.inside.early.done
  done_stands =
      let at : length t.closed.outputs.with_rows + 1 ≡ done_at shape m = (let before = before_need in omega arith) in
      subst (λ (n : ℕ). CopiesAt m.signals n 1 t.inside.early.done) at t.closed.outputs.done_at
