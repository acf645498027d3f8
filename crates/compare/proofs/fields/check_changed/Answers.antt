use Rattle.compare.proofs.AlikeLaws.{ahead-sound, ahead-sound₀}
use Rattle.compare.proofs.FieldLaws.{rest-bare, rest-noted}
use Rattle.compare.proofs.KeptLaws.{kept-sound, kept_same}
use borrow.Author.Rules.{rules}
use Rattle.compare.proofs.fields.check_changed.Goals as goal

pub note_rest-requires : goal.note_rest-requires
note_rest-requires c = (search ahead-sound, search ahead-sound₀, search rules)

pub returns-then-is_bare : goal.returns-then-is_bare
returns-then-is_bare c = record { verdict = search rest-bare; entry = search rest-noted }

pub check_any-requires : goal.check_any-requires
check_any-requires c = let pre = c.requires in (pre.0, kept-sound _ _ _ _ _ _ _ _ _ _ pre.0 pre.1 c.pass_kept-both.ensures.kept)

pub returns : goal.returns
returns c =
    let pre = c.requires in
    let pass = c.pass_kept-both.ensures in
    record {
      verdict = kept_same _ _ _ _ _ _ _ _ _ _ pre.0 pre.1 pass.kept _ _ c.check_any.ensures;
      entry = rest-noted _ _ _ _ _ _ _ _ _ _ _ pre.0 pre.1 c.args.pair.index c.args.cover.now _ pass.alike c.note_rest.ensures;
    }
