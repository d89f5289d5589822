-- One more step at the end of a list of turns.
use Rattle.std.proofs.Common.{◌≡◌, ℕ, ◌+◌, List, [], ◌∷◌, ◌++◌, replicate, ap, sym, ◌∙◌, append_assoc, add-one}
use Rattle.turns.specs.declared.Turn.{Turn}
use Rattle.turns.specs.Turns.{threads_of, turn}
use Rattle.run_check.proofs.Runs.{replicate_more, threads_last}

one_step : (xs : List Turn) (i : ℕ) → threads_of (xs ++ turn i 1 ∷ []) ≡ threads_of xs ++ i ∷ []
one_step xs i = threads_last xs (turn i 1)

-- a turn of its own
pub step_alone : (old new : List Turn) (i : ℕ) → new ≡ old ++ turn i 1 ∷ [] → threads_of new ≡ threads_of old ++ i ∷ []
step_alone old new i e = ap threads_of e ∙ one_step old i

pub step_behind : (old mid new rest : List Turn) (last : Turn) (i : ℕ) → old ≡ rest ++ last ∷ [] → mid ≡ rest ++ last ∷ [] → new ≡ mid ++ turn i 1 ∷ [] →
    threads_of new ≡ threads_of old ++ i ∷ []
step_behind old mid new rest last i was same e = step_alone old new i (e ∙ ap (λ l. l ++ turn i 1 ∷ []) (same ∙ sym was))

-- one more of the last turn
pub step_joined : (old new rest : List Turn) (last : Turn) (i : ℕ) → old ≡ rest ++ last ∷ [] → last.thread ≡ i → new ≡ rest ++ turn i (last.steps + 1) ∷ [] →
    threads_of new ≡ threads_of old ++ i ∷ []
step_joined old new rest last i was same e =
    let longer : replicate (last.steps + 1) i ≡ replicate last.steps i ++ i ∷ [] = ap (λ n. replicate n i) (add-one last.steps) ∙ sym (replicate_more last.steps i) in
    let before : threads_of old ≡ threads_of rest ++ replicate last.steps i =
    ap threads_of was ∙ threads_last rest last ∙ ap (λ k. threads_of rest ++ replicate last.steps k) same in
    ap threads_of e ∙ threads_last rest (turn i (last.steps + 1)) ∙ ap (λ l. threads_of rest ++ l) longer
    ∙ sym (append_assoc (threads_of rest) (replicate last.steps i) (i ∷ [])) ∙ ap (λ l. l ++ i ∷ []) (sym before)
