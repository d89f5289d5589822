-- What the verdict on the program of a text says.
use Rattle.std.proofs.Common.{◌≡◌, ℕ, List, Ok, Err, true, sym, ap, refl}
use Rattle.c_token.specs.declared.token.Token.{Token}
use Rattle.c_token.specs.Spelling.{Bytes}
use Rattle.c_lexer.specs.Texts.{LexesAs, Finds}
use Rattle.c_lexer.specs.declared.fault.LexFault.{LexFault}
use Rattle.c_lexer.specs.declared.fault.LexFault.TheVariants.{Bad, Limit, Memory}
use Rattle.c_program.specs.Tree.{Program}
use Rattle.c_limits.proofs.Within.{within_limits}
use Rattle.c_accepted.specs.Profile.{IsAccepted}
use Rattle.c_resolved_program.proofs.AcceptedLaws.{resolved_law}
use Rattle.lock_discipline.specs.Discipline.{Disciplined, Doubt, verdict, is_disciplined}
use Rattle.lock_discipline.proofs.Calm.{disciplined_is_calm, disciplined_is_good}
use Rattle.check_command.specs.Told.{IsDisciplined, IsInDoubt, told_at}

-- a program of the profile that is disciplined never races
pub tells_discipline : (text : Bytes) (P : Program) (w globals : ℕ) → IsAccepted text P w → Disciplined globals ≡ verdict P → IsDisciplined P globals
tells_discipline text P w globals accepted e =
    let resolved = resolved_law text P w accepted in
    let few = (within_limits P accepted.within.limits).threads in
    let is : is_disciplined (verdict P) ≡ true = ap is_disciplined (sym e) in
    record {
      verdict = sym e;
      calm = disciplined_is_calm P resolved few is;
      good = disciplined_is_good P resolved few is;
    }

pub tells_doubt : (text : Bytes) (P : Program) (tokens : List Token) (step offset : ℕ) (name : Bytes) → LexesAs text (Ok tokens) → Doubt step name ≡ verdict P →
    offset ≡ told_at tokens step name → IsInDoubt text P offset name
tells_doubt text P tokens step offset name lexed e place = record {
  tokens = tokens;
  lexed = lexed;
  step = step;
  verdict = sym e;
  place = place;
}

-- a text that has tokens has no fault: none but want of memory keeps them from being found
pub faultless : (tokens : List Token) (fault : LexFault) → Finds (Ok tokens) (Err fault) → fault ≡ Memory
faultless tokens (Bad k) found = absurd (let e : Err (Bad k) ≡ Ok tokens = found in cc)
faultless tokens (Limit which count k) found = absurd (let e : Err (Limit which count k) ≡ Ok tokens = found in cc)
faultless tokens Memory found = refl
