use mathlib.Core.Bool.{false≢true}
use Rattle.compare.proofs.LayoutLaws.{alike-laws}
use Rattle.compare.proofs.layouts.alike.Goals as goal

pub returns-in_default-e : goal.returns-in_default-e
returns-in_default-e c = λ t. absurd (false≢true t)

pub returns-then-same : goal.returns-then-same
returns-then-same c = λ t. search alike-laws

pub returns-in-Named : goal.returns-in-Named
returns-in-Named c = λ t. absurd (false≢true t)

pub returns-in_default-e-2 : goal.returns-in_default-e-2
returns-in_default-e-2 c = λ t. absurd (false≢true t)

pub returns-then-n-m : goal.returns-then-n-m
returns-then-n-m c = λ t. absurd (false≢true t)

pub returns-then-same-2 : goal.returns-then-same-2
returns-then-same-2 c = λ t. search alike-laws

pub returns-in-Array : goal.returns-in-Array
returns-in-Array c = λ t. absurd (false≢true t)

pub returns : goal.returns
returns c = λ t. absurd (false≢true t)
