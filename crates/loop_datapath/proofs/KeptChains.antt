-- What the registers for values hold next in a loop: lemmas of each function that adds a link.
use Rattle.std.proofs.Common.{◌≡◌, ◌≢◌, ℕ, zero, suc, ◌+◌, ◌-◌, ◌<◌, ◌≤◌, nat_eq, Bool, true, false, not, ◌&&◌, if◌then◌else◌}
use Rattle.std.proofs.Common.{List, length, slice_get, slice_index, Some, None, refl, sym, ap, subst, ◌∙◌, ⊎_elim, arith}
use Rattle.std.proofs.lemmas.Bool.{cases_eq, and_right}
use Rattle.lists.proofs.Places.{get_there}
use Rattle.netlist.specs.declared.netlist.Signal.{Signal}
use Rattle.netlist.specs.declared.netlist.Module.{Module}
use Rattle.verilog_meaning.specs.Readings.{Reading}
use Rattle.hls_ints.specs.Residues.{bit_of}
use Rattle.planned_block.proofs.Bits.{same_is, other_is}
use Rattle.circuit.specs.Modules.{Obeys}
use Rattle.operator_wires.specs.declared.words.Word.{Word}
use Rattle.operator_wires.specs.Gives.{Grows, Gives}
use Rattle.operator_wires.specs.Words.{Resizes, resized_word}
use Rattle.operator_wires.proofs.PutSignals.{grows_refl, grows_then}
use Rattle.operator_wires.proofs.TypedWords.{own}
use Rattle.block_datapath.specs.declared.registers.Held.{Held}
use Rattle.block_datapath.specs.declared.registers.Registers.{Registers}
use Rattle.block_datapath.specs.Chains.{next_number, is_set, held_width, SetsNext}
use Rattle.thread_slots.specs.Bits.{HasBit}
use Rattle.loop_datapath.specs.declared.times.LoopTimes.{LoopTimes}
use Rattle.loop_datapath.specs.declared.states.LoopStates.{LoopStates}
use Rattle.loop_datapath.specs.declared.stage_bits.StageBits.{StageBits}
use Rattle.loop_datapath.specs.Times.{time_at}
use Rattle.loop_datapath.specs.States.{phase_bit, ShowsPhase}
use Rattle.loop_datapath.specs.Chains.{held_number, copy_number, copy_in, CanCopy, chain_at, IsInChain, AreChainsApart, is_given, Copies, KeepsCopy, KeepsCopies, KeepsChains}
use Rattle.loop_datapath.specs.Chains.{KeepsBit, KeepsStages}

-- ---- one link

module _ (a b : List Signal) (before after : List ℕ) (number condition source : ℕ) (sets : SetsNext a b before after number condition source) (m : Module) (r : Reading)
    (g : Grows b m.signals) (o : Obeys m r) where
  pub sets_others : (x : ℕ) → x < length before → x ≢ number → next_number r after x ≡ next_number r before x
  sets_others x less ne =
      sets.shows m r x g o less ∙ ap (λ t. if t && is_set r condition then r.signal source else next_number r before x) (other_is x number ne)

  pub sets_rests : (x : ℕ) → HasBit m r condition false → x < length before → next_number r after x ≡ next_number r before x
  sets_rests x has less =
      let off : is_set r condition ≡ false = ap (λ n. not (nat_eq n 0)) has.shows in
      sets.shows m r x g o less ∙ ap (λ t. if t then r.signal source else next_number r before x) (and_right (nat_eq x number) (is_set r condition) off)

  pub sets_shows : HasBit m r condition true → number < length before → next_number r after number ≡ r.signal source
  sets_shows has less =
      let on : is_set r condition ≡ true = ap (λ n. not (nat_eq n 0)) has.shows in
      sets.shows m r number g o less
      ∙ ap (λ t. if t && is_set r condition then r.signal source else next_number r before number) (same_is number number refl)
      ∙ ap (λ t. if t then r.signal source else next_number r before number) on

-- a number past the registers
none_past : (kept : List Held) (n : ℕ) → slice_get kept n ≡ None → n < length kept → ⊥
none_past kept n e less = let there = get_there kept n less in let some = there.1 in absurd cc

-- ---- a register of a chain

module _ (a b : List Signal) (registers : Registers) (chain : ℕ) (word : Word) (w place : ℕ) where
  pub copies_word : (d : ℕ) → d ≡ 0 → Resizes a b word.place word.width w false place → Copies a b registers chain word d w place
  copies_word d e t =
      subst (λ k. Copies a b registers chain word k w place) (sym e) (record { grows = t.grows; shows = λ m r g o can. t.shows m r g o can.value })

  pub copies_held : (d before : ℕ) (held : Held) → (d ≡ 0 → ⊥) → before ≡ chain + (d - 1) → slice_get registers.kept before ≡ Some held →
      Resizes a b held.register held.width w false place → Copies a b registers chain word d w place
  copies_held d before held some at listed t =
      let e : d ≡ suc (d - 1) = omega arith in
      let there : slice_get registers.kept (chain + (d - 1)) ≡ Some held = ap (slice_get registers.kept) (sym at) ∙ listed in
      subst (λ k. Copies a b registers chain word k w place) (sym e) (record {
        grows = t.grows;
        shows = λ m r g o can. t.shows m r g o (can.kept before held listed) ∙ ap (held_number r w) (sym there);
      })

  pub copies_none : (d before : ℕ) → (d ≡ 0 → ⊥) → before ≡ chain + (d - 1) → slice_get registers.kept before ≡ None → Gives a b place w (λ m r. 0) →
      Copies a b registers chain word d w place
  copies_none d before some at missing t =
      let e : d ≡ suc (d - 1) = omega arith in
      let there : slice_get registers.kept (chain + (d - 1)) ≡ None = ap (slice_get registers.kept) (sym at) ∙ missing in
      subst (λ k. Copies a b registers chain word k w place) (sym e) (record {
        grows = t.grows;
        shows = λ m r g o can. t.shows m r g o ∙ ap (held_number r w) (sym there);
      })

module _ (registers : Registers) (chain : ℕ) (word : Word) (here : ℕ) where
  pub copy_missing : (a : List Signal) (before : List ℕ) (d : ℕ) → slice_get registers.kept (chain + d) ≡ None → KeepsCopy a a registers chain word here before before d
  copy_missing a before d missing = record {
    grows = grows_refl a;
    count = refl;
    shows = λ m r g o can has less same. absurd (none_past registers.kept (chain + d) missing (subst (λ n. chain + d < n) same less));
    others = λ m r x g o less ne. refl;
    rests = λ m r x g o has less. refl;
  }

  pub copy_linked : (a b c : List Signal) (before after : List ℕ) (d source : ℕ) (held : Held) → slice_get registers.kept (chain + d) ≡ Some held →
      Copies a b registers chain word d held.width source → SetsNext b c before after (chain + d) here source → KeepsCopy a c registers chain word here before after d
  copy_linked a b c before after d source held listed t u = record {
    grows = grows_then a b c t.grows u.grows;
    count = u.count;
    shows = λ m r g o can has less same.
        sets_shows b c before after (chain + d) here source u m r g o has less ∙ t.shows m r (grows_then b c m.signals u.grows g) o can
        ∙ ap (λ w. copy_number r registers.kept chain word w d) (sym (ap held_width listed));
    others = λ m r x g o less ne. sets_others b c before after (chain + d) here source u m r g o x less ne;
    rests = λ m r x g o has less. sets_rests b c before after (chain + d) here source u m r g o x has less;
  }

  pub copies_begin : (a : List Signal) (before : List ℕ) → KeepsCopies a a registers chain word here before before 0
  copies_begin a before = record {
    grows = grows_refl a;
    count = refl;
    shows = λ m r d g o can has low less same. absurd (omega arith);
    others = λ m r x g o less ne. refl;
    rests = λ m r x g o has less. refl;
  }

  pub copies_more : (a b c : List Signal) (before middle after : List ℕ) (n : ℕ) → KeepsCopies a b registers chain word here before middle n →
      KeepsCopy b c registers chain word here middle after n → KeepsCopies a c registers chain word here before after (n + 1)
  copies_more a b c before middle after n t u =
      let same_count = t.count in
      record {
        grows = grows_then a b c t.grows u.grows;
        count = u.count ∙ t.count;
        shows = λ m r d g o can has low less same. ⊎_elim
            (λ (e : d ≡ n).
            let less_n : chain + n < length middle = omega arith in
            subst (λ k. next_number r after (chain + k) ≡ copy_in r registers.kept chain word k (chain + k)) (sym e)
            (u.shows m r g o can has less_n (t.count ∙ same)))
            (λ (ne : d ≢ n).
            let other : chain + d ≢ chain + n = λ e. ne (omega (arith, e)) in
            u.others m r (chain + d) g o (omega arith) other ∙ t.shows m r d (grows_then b c m.signals u.grows g) o can has (omega arith) less same)
            (cases_eq d n);
        others = λ m r x g o less ne.
            u.others m r x g o (omega arith) (ne n (omega arith)) ∙ t.others m r x (grows_then b c m.signals u.grows g) o less (λ d low. ne d (omega arith));
        rests = λ m r x g o has less. u.rests m r x g o has (omega arith) ∙ t.rests m r x (grows_then b c m.signals u.grows g) o has less;
      }

-- ---- the chains of all operations

module _ (registers : Registers) (times : LoopTimes) (states : LoopStates) (words : List Word) where
  pub chains_begin : (a : List Signal) (before : List ℕ) → KeepsChains a a registers times states before before words 0
  chains_begin a before = record {
    grows = grows_refl a;
    count = refl;
    shows = λ m r phase i d word g o phases apart low listed can is in_chain less same. absurd (omega arith);
    stays = λ m r phase i d g o phases apart low ne in_chain less. refl;
    others = λ m r x g o less ne. refl;
    rests = λ m r x g o none less. refl;
  }

  module _ (a b c : List Signal) (before middle after : List ℕ) (n here copies chain : ℕ) (word : Word) (listed : slice_get words n ≡ Some word)
      (is_here : here ≡ phase_bit states (time_at times.operations n).phase) (is_copies : copies ≡ times.stages - (time_at times.operations n).stage)
      (is_chain : chain ≡ (time_at times.operations n).chain) (t : KeepsChains a b registers times states before middle words n)
      (u : KeepsCopies b c registers chain word here middle after copies) where
    module _ (m : Module) (r : Reading) (g : Grows c m.signals) (o : Obeys m r) where
      back : Grows b m.signals
      back = grows_then b c m.signals u.grows g

      in_middle : (x : ℕ) → x < length before → x < length middle
      in_middle x less = subst (λ k. x < k) (sym t.count) less

      -- a register of an earlier chain, or of none
      passes : (x : ℕ) → x < length before → ((d : ℕ) → IsInChain times n d → x ≢ chain_at times n d) → next_number r after x ≡ next_number r middle x
      passes x less ne =
          u.others m r x g o (in_middle x less)
          (λ d low e. ne d (omega (arith, is_copies)) (e ∙ ap (λ k. k + d) is_chain))

      passes_chain : (i d : ℕ) → AreChainsApart times (n + 1) → i < n → IsInChain times i d → chain_at times i d < length before →
          next_number r after (chain_at times i d) ≡ next_number r middle (chain_at times i d)
      passes_chain i d apart low inside less =
          passes (chain_at times i d) less (λ e inside_too same. (let two = apart i n d e (omega arith) (omega arith) inside inside_too same in let one = two.0 in omega arith))

      earlier_apart : AreChainsApart times (n + 1) → AreChainsApart times n
      earlier_apart apart i j d e low low_too = apart i j d e (omega arith) (omega arith)

      last_shown : (phase d : ℕ) (own : Word) → ShowsPhase m r states phase → slice_get words n ≡ Some own → CanCopy m registers own →
          phase ≡ (time_at times.operations n).phase → IsInChain times n d → chain_at times n d < length before → length before ≡ length registers.kept →
          next_number r after (chain_at times n d) ≡ copy_in r registers.kept (time_at times.operations n).chain own d (chain_at times n d)
      last_shown phase d own phases there can is inside less same =
          let one : own ≡ word = cc in
          let on : HasBit m r here true =
          subst (λ p. HasBit m r p true) (sym is_here)
          (subst (λ z. HasBit m r (phase_bit states (time_at times.operations n).phase) z) (same_is phase (time_at times.operations n).phase is)
          (phases (time_at times.operations n).phase)) in
          let at : chain + d ≡ chain_at times n d = ap (λ k. k + d) is_chain in
          let below : chain + d < length middle = subst (λ k. k < length middle) (sym at) (in_middle (chain_at times n d) less) in
          let shown = u.shows m r d g o (subst (λ (z : Word). CanCopy m registers z) one can) on (omega (arith, is_copies)) below (t.count ∙ same) in
          subst (λ k. next_number r after (k + d) ≡ copy_in r registers.kept k own d (k + d)) is_chain
          (subst (λ (z : Word). next_number r after (chain + d) ≡ copy_in r registers.kept chain z d (chain + d)) (sym one) shown)

      last_stays : (phase d : ℕ) → ShowsPhase m r states phase → AreChainsApart times (n + 1) → phase ≢ (time_at times.operations n).phase → IsInChain times n d →
          chain_at times n d < length before → next_number r after (chain_at times n d) ≡ next_number r before (chain_at times n d)
      last_stays phase d phases apart ne inside less =
          let off : HasBit m r here false =
          subst (λ p. HasBit m r p false) (sym is_here)
          (subst (λ z. HasBit m r (phase_bit states (time_at times.operations n).phase) z) (other_is phase (time_at times.operations n).phase ne)
          (phases (time_at times.operations n).phase)) in
          u.rests m r (chain_at times n d) g o off (in_middle (chain_at times n d) less)
          ∙ t.others m r (chain_at times n d) back o less
          (λ j e low inside_too same. (let two = apart n j d e (omega arith) (omega arith) inside inside_too same in let one = two.0 in omega arith))

    pub chains_more : KeepsChains a c registers times states before after words (n + 1)
    chains_more = record {
      grows = grows_then a b c t.grows u.grows;
      count = u.count ∙ t.count;
      shows = λ m r phase i d own g o phases apart low there can is inside less same. ⊎_elim
          (λ (e : i ≡ n).
          subst (λ k. slice_get words k ≡ Some own → phase ≡ (time_at times.operations k).phase → IsInChain times k d → chain_at times k d < length before →
          next_number r after (chain_at times k d) ≡ copy_in r registers.kept (time_at times.operations k).chain own d (chain_at times k d)) (sym e)
          (λ at now in_it small. last_shown m r g o phase d own phases at can now in_it small same) there is inside less)
          (λ (ne : i ≢ n).
          let lower : i < n = omega arith in
          passes_chain m r g o i d apart lower inside less
          ∙ t.shows m r phase i d own (back m r g o) o phases (earlier_apart m r g o apart) lower there can is inside less same)
          (cases_eq i n);
      stays = λ m r phase i d g o phases apart low other inside less. ⊎_elim
          (λ (e : i ≡ n).
          subst (λ k. phase ≢ (time_at times.operations k).phase → IsInChain times k d → chain_at times k d < length before →
          next_number r after (chain_at times k d) ≡ next_number r before (chain_at times k d)) (sym e)
          (λ now in_it small. last_stays m r g o phase d phases apart now in_it small) other inside less)
          (λ (ne : i ≢ n).
          let lower : i < n = omega arith in
          passes_chain m r g o i d apart lower inside less
          ∙ t.stays m r phase i d (back m r g o) o phases (earlier_apart m r g o apart) lower other inside less)
          (cases_eq i n);
      others = λ m r x g o less ne.
          passes m r g o x less (λ d inside. ne n d (omega arith) inside) ∙ t.others m r x (back m r g o) o less (λ i d low inside. ne i d (omega arith) inside);
      rests = λ m r x g o none less.
          u.rests m r x g o (subst (λ p. HasBit m r p false) (sym is_here) (none (time_at times.operations n).phase)) (in_middle m r g o x less)
          ∙ t.rests m r x (back m r g o) o none less;
    }

-- ---- bits

module _ (registers : Registers) (number condition bit : ℕ) where
  pub bit_missing : (a : List Signal) (before : List ℕ) → slice_get registers.kept number ≡ None → KeepsBit a a registers before before number condition bit
  bit_missing a before missing = record {
    grows = grows_refl a;
    count = refl;
    shows = λ m r t g o has value less same. absurd (none_past registers.kept number missing (subst (λ n. number < n) same less));
    others = λ m r x g o less ne. refl;
    rests = λ m r x g o has less. refl;
  }

  pub bit_linked : (a b c : List Signal) (before after : List ℕ) (source : ℕ) (held : Held) → slice_get registers.kept number ≡ Some held →
      Resizes a b bit 1 held.width false source → SetsNext b c before after number condition source → KeepsBit a c registers before after number condition bit
  bit_linked a b c before after source held listed t u = record {
    grows = grows_then a b c t.grows u.grows;
    count = u.count;
    shows = λ m r v g o has value less same.
        sets_shows b c before after number condition source u m r g o has less ∙ t.shows m r (grows_then b c m.signals u.grows g) o value.wide
        ∙ ap (resized_word false 1 held.width) value.shows ∙ ap (λ w. resized_word false 1 w (bit_of v)) (sym (ap held_width listed));
    others = λ m r x g o less ne. sets_others b c before after number condition source u m r g o x less ne;
    rests = λ m r x g o has less. sets_rests b c before after number condition source u m r g o x has less;
  }

given_later : (times : LoopTimes) (comparison phase n : ℕ) → 1 ≤ n → is_given times comparison phase n ≡ nat_eq phase (times.interval - 1)
given_later times comparison phase zero some = absurd (omega arith)
given_later times comparison phase (suc n) some = refl

module _ (registers : Registers) (times : LoopTimes) (comparison : ℕ) (bits : StageBits) (states : LoopStates) where
  -- the bit of stage n, where a phase gives it
  module _ (a b : List Signal) (before after : List ℕ) (n number condition bit phase_of : ℕ) (is_number : number ≡ times.bits + n)
      (is_condition : condition ≡ phase_bit states phase_of) (is_bit : bit ≡ slice_index bits.inside (n - 1))
      (given : (phase : ℕ) → is_given times comparison phase n ≡ nat_eq phase phase_of) (u : KeepsBit a b registers before after number condition bit) (m : Module)
      (r : Reading) (g : Grows b m.signals) (o : Obeys m r) where
    condition_is : (phase : ℕ) (t : Bool) → ShowsPhase m r states phase → is_given times comparison phase n ≡ t → HasBit m r condition t
    condition_is phase t phases e =
        subst (λ p. HasBit m r p t) (sym is_condition)
        (subst (λ z. HasBit m r (phase_bit states phase_of) z) (sym (given phase) ∙ e) (phases phase_of))

    pub stage_shown : (phase : ℕ) (t : Bool) → ShowsPhase m r states phase → is_given times comparison phase n ≡ true → HasBit m r (slice_index bits.inside (n - 1)) t →
        times.bits + n < length before → length before ≡ length registers.kept →
        next_number r after (times.bits + n) ≡ resized_word false 1 (held_width (slice_get registers.kept (times.bits + n))) (bit_of t)
    stage_shown phase t phases e value less same =
        subst (λ k. next_number r after k ≡ resized_word false 1 (held_width (slice_get registers.kept k)) (bit_of t)) is_number
        (u.shows m r t g o (condition_is phase true phases e) (subst (λ p. HasBit m r p t) (sym is_bit) value) (subst (λ k. k < length before) (sym is_number) less) same)

    pub stage_stays : (phase x : ℕ) → ShowsPhase m r states phase → is_given times comparison phase n ≡ false → x < length before →
        next_number r after x ≡ next_number r before x
    stage_stays phase x phases e less = u.rests m r x g o (condition_is phase false phases e) less

    pub stage_passes : (x : ℕ) → x < length before → x ≢ times.bits + n → next_number r after x ≡ next_number r before x
    stage_passes x less ne = u.others m r x g o less (λ e. ne (e ∙ is_number))

    pub stage_rests : (x : ℕ) → ((k : ℕ) → HasBit m r (phase_bit states k) false) → x < length before → next_number r after x ≡ next_number r before x
    stage_rests x none less = u.rests m r x g o (subst (λ p. HasBit m r p false) (sym is_condition) (none phase_of)) less

  pub stages_first : (a b : List Signal) (before after : List ℕ) (number condition bit phase_of : ℕ) → number ≡ times.bits →
      phase_of ≡ (time_at times.operations comparison).phase → condition ≡ phase_bit states phase_of → bit ≡ slice_index bits.inside 0 →
      KeepsBit a b registers before after number condition bit → KeepsStages a b registers times comparison bits states before after 1
  stages_first a b before after number condition bit phase_of is_number is_phase is_condition is_bit u =
      let at : number ≡ times.bits + 0 = omega (arith, is_number) in
      let given : (phase : ℕ) → is_given times comparison phase 0 ≡ nat_eq phase phase_of = λ phase. ap (nat_eq phase) (sym is_phase) in
      record {
        grows = u.grows;
        count = u.count;
        shows = λ m r phase s t g o phases low e value less same.
            let z : s ≡ 0 = omega arith in
            subst (λ k. is_given times comparison phase k ≡ true → HasBit m r (slice_index bits.inside (k - 1)) t → times.bits + k < length before →
            next_number r after (times.bits + k) ≡ resized_word false 1 (held_width (slice_get registers.kept (times.bits + k))) (bit_of t)) (sym z)
            (λ f v l. stage_shown a b before after 0 number condition bit phase_of at is_condition is_bit given u m r g o phase t phases f v l same) e value less;
        stays = λ m r phase s g o phases low e less.
            let z : s ≡ 0 = omega arith in
            stage_stays a b before after 0 number condition bit phase_of at is_condition is_bit given u m r g o phase (times.bits + s) phases
            (subst (λ k. is_given times comparison phase k ≡ false) z e) less;
        others = λ m r x g o less ne.
            stage_passes a b before after 0 number condition bit phase_of at is_condition is_bit given u m r g o x less (ne 0 (omega arith));
        rests = λ m r x g o none less. stage_rests a b before after 0 number condition bit phase_of at is_condition is_bit given u m r g o x none less;
      }

  pub stages_more : (a b c : List Signal) (before middle after : List ℕ) (n number condition bit phase_of : ℕ) → 1 ≤ n → number ≡ times.bits + n →
      phase_of ≡ times.interval - 1 → condition ≡ phase_bit states phase_of → bit ≡ slice_index bits.inside (n - 1) →
      KeepsStages a b registers times comparison bits states before middle n → KeepsBit b c registers middle after number condition bit →
      KeepsStages a c registers times comparison bits states before after (n + 1)
  stages_more a b c before middle after n number condition bit phase_of some is_number is_phase is_condition is_bit t u =
      let given : (phase : ℕ) → is_given times comparison phase n ≡ nat_eq phase phase_of = λ phase. given_later times comparison phase n some ∙ ap (nat_eq phase) (sym is_phase) in
      record {
        grows = grows_then a b c t.grows u.grows;
        count = u.count ∙ t.count;
        shows = λ m r phase s v g o phases low e value less same. ⊎_elim
            (λ (z : s ≡ n).
            subst (λ k. is_given times comparison phase k ≡ true → HasBit m r (slice_index bits.inside (k - 1)) v → times.bits + k < length middle →
            next_number r after (times.bits + k) ≡ resized_word false 1 (held_width (slice_get registers.kept (times.bits + k))) (bit_of v)) (sym z)
            (λ f w l. stage_shown b c middle after n number condition bit phase_of is_number is_condition is_bit given u m r g o phase v phases f w l (t.count ∙ same)) e value
            (subst (λ k. times.bits + s < k) (sym t.count) less))
            (λ (ne : s ≢ n).
            stage_passes b c middle after n number condition bit phase_of is_number is_condition is_bit given u m r g o (times.bits + s)
            (subst (λ k. times.bits + s < k) (sym t.count) less) (λ f. ne (omega (arith, f)))
            ∙ t.shows m r phase s v (grows_then b c m.signals u.grows g) o phases (omega arith) e value less same)
            (cases_eq s n);
        stays = λ m r phase s g o phases low e less. ⊎_elim
            (λ (z : s ≡ n).
            stage_stays b c middle after n number condition bit phase_of is_number is_condition is_bit given u m r g o phase (times.bits + s) phases
            (subst (λ k. is_given times comparison phase k ≡ false) z e) (subst (λ k. times.bits + s < k) (sym t.count) less)
            ∙ t.others m r (times.bits + s) (grows_then b c m.signals u.grows g) o less (λ k lower f. (let other : ⊥ = omega (arith, f, z) in other)))
            (λ (ne : s ≢ n).
            stage_passes b c middle after n number condition bit phase_of is_number is_condition is_bit given u m r g o (times.bits + s)
            (subst (λ k. times.bits + s < k) (sym t.count) less) (λ f. ne (omega (arith, f)))
            ∙ t.stays m r phase s (grows_then b c m.signals u.grows g) o phases (omega arith) e less)
            (cases_eq s n);
        others = λ m r x g o less ne.
            stage_passes b c middle after n number condition bit phase_of is_number is_condition is_bit given u m r g o x (subst (λ k. x < k) (sym t.count) less)
            (ne n (omega arith))
            ∙ t.others m r x (grows_then b c m.signals u.grows g) o less (λ s low. ne s (omega arith));
        rests = λ m r x g o none less.
            stage_rests b c middle after n number condition bit phase_of is_number is_condition is_bit given u m r g o x none (subst (λ k. x < k) (sym t.count) less)
            ∙ t.rests m r x (grows_then b c m.signals u.grows g) o none less;
      }
