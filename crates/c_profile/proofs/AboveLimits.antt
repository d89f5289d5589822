-- A program that is above a limit is one of a text that is refused for it.
use Rattle.std.proofs.Common.{◌≡◌, refl, subst}
use Rattle.std.specs.Prelude.{Some, Result, Ok, Err, IfErr}
use Rattle.c_token.specs.Spelling.{Bytes}
use Rattle.c_tree.specs.declared.declaration.TranslationUnit.{TranslationUnit}
use Rattle.c_program.specs.Tree.{Program}
use Rattle.c_rules.specs.declared.fault.Fault.{Fault}
use Rattle.c_rules.specs.declared.fault.ResolveError.{ResolveError}
use Rattle.c_rules.specs.declared.fault.ResolveError.TheVariants as stop
use Rattle.c_resolution.specs.Resolving.{IsFirstFault, LacksMain, Spells}
use Rattle.c_profile.specs.declared.text.ProfileError.TheVariants as error
use Rattle.c_accepted.specs.declared.refusal.Refusal.{Refusal}
use Rattle.c_accepted.specs.declared.refusal.Refusal.TheVariants as refusal
use Rattle.c_profile.specs.Stops.{answer_to}
use Rattle.c_accepted.specs.Profile.{IsTreeOf, IsPassed, IsRefused}

pub refused_by_limit : (text : Bytes) (tree : TranslationUnit) (P : Program) (r : Refusal) → IsTreeOf text tree → Spells tree P → IsPassed P r → IsRefused text r
refused_by_limit text tree P (refusal.Limit passed) is spelled p = (tree, is, (P, spelled, p))
refused_by_limit text tree P refusal.TooLong is spelled p = absurd p
refused_by_limit text tree P (refusal.NoToken at) is spelled p = absurd p
refused_by_limit text tree P (refusal.Syntax at) is spelled p = absurd p
refused_by_limit text tree P (refusal.Broken rule at) is spelled p = absurd p
refused_by_limit text tree P refusal.NoMain is spelled p = absurd p
refused_by_limit text tree P (refusal.LimitAt passed at) is spelled p = absurd p

-- and a tree that has no program is one of a text that is refused for its cause
pub refused_for_tree : (text : Bytes) (tree : TranslationUnit) (x : ResolveError) (r : Refusal) → IsTreeOf text tree →
    ((f : Fault) → x ≡ stop.Broken f → IsFirstFault tree (Some f)) → (x ≡ stop.NoMain → LacksMain tree) → answer_to x ≡ error.Refused r → IsRefused text r
refused_for_tree text tree (stop.Broken f) r is broken no_main told =
    let same : refusal.Broken f.rule f.offset ≡ r = cc in subst (IsRefused text) same (tree, is, broken f refl)
refused_for_tree text tree stop.NoMain r is broken no_main told =
    let same : refusal.NoMain ≡ r = cc in subst (IsRefused text) same (tree, is, no_main refl)
refused_for_tree text tree stop.Memory r is broken no_main told = cc

pub of_err : {A E : Type 0} (x : Result A E) (P Q : E → Type 0) → ((e : E) → P e → Q e) → IfErr x P → IfErr x Q
of_err (Ok a) P Q f p = tt
of_err (Err e) P Q f p = f e p
