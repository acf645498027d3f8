use Rattle.std.proofs.Common.{◌≡◌, refl, subst, rules}
use Rattle.std.proofs.lemmas.Fn.{fold_over, slice_gives, fronts}
use Rattle.texts.specs.Plain.{all_plain}
use Rattle.texts.proofs.LetterLaws.{plain_push}
use Rattle.texts.proofs.utf8.all_plain.Goals as goal

pub returns : goal.returns
unfolding all_plain
returns c = subst (λ l. c.fold.result ≡ all_plain l) c.iter.ensures.rest
    (fold_over fronts (λ y. y.now) _ (λ ys r. r ≡ all_plain ys) _ (λ ys a x b f' h k. search (rules, plain_push)) _ _ _ _ (slice_gives c.iter.result) refl c.fold.ensures.ran)
