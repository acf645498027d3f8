use Rattle.record.specs.Base.{bytes}
use Rattle.record.specs.Kind.{words, of_length}
use Rattle.record.proofs.KindLaws.{word_laws, kind-by-length, kind-of-none}
use Rattle.record.proofs.kind.kind_of.Goals as goal

pub returns-in-4 : goal.returns-in-4
unfolding bytes words of_length
returns-in-4 c = kind-by-length _ 4 _ c.in-4.is (search word_laws depth 8)

pub returns-in-6 : goal.returns-in-6
unfolding bytes words of_length
returns-in-6 c = kind-by-length _ 6 _ c.in-6.is (search word_laws depth 8)

pub returns-in-6-2 : goal.returns-in-6-2
unfolding bytes words of_length
returns-in-6-2 c = kind-by-length _ 6 _ c.in-6.is (search word_laws depth 8)

pub returns-in-6-3 : goal.returns-in-6-3
unfolding bytes words of_length
returns-in-6-3 c = kind-by-length _ 6 _ c.in-6.is (search word_laws depth 8)

pub returns-in-7 : goal.returns-in-7
unfolding bytes words of_length
returns-in-7 c = kind-by-length _ 7 _ c.in-7.is (search word_laws depth 8)

pub returns-in-8 : goal.returns-in-8
unfolding bytes words of_length
returns-in-8 c = kind-by-length _ 8 _ c.in-8.is (search word_laws depth 8)

pub returns-in-8-2 : goal.returns-in-8-2
unfolding bytes words of_length
returns-in-8-2 c = kind-by-length _ 8 _ c.in-8.is (search word_laws depth 8)

pub returns-in-10 : goal.returns-in-10
unfolding bytes words of_length
returns-in-10 c = kind-by-length _ 10 _ c.in-10.is (search word_laws depth 8)

pub returns-in-10-2 : goal.returns-in-10-2
unfolding bytes words of_length
returns-in-10-2 c = kind-by-length _ 10 _ c.in-10.is (search word_laws depth 8)

pub returns-in-10-3 : goal.returns-in-10-3
unfolding bytes words of_length
returns-in-10-3 c = kind-by-length _ 10 _ c.in-10.is (search word_laws depth 8)

pub returns-in-12 : goal.returns-in-12
unfolding bytes words of_length
returns-in-12 c = kind-by-length _ 12 _ c.in-12.is (search word_laws depth 8)

pub returns-in-14 : goal.returns-in-14
unfolding bytes words of_length
returns-in-14 c = kind-by-length _ 14 _ c.in-14.is (search word_laws depth 8)

pub returns-in-14-2 : goal.returns-in-14-2
unfolding bytes words of_length
returns-in-14-2 c = kind-by-length _ 14 _ c.in-14.is (search word_laws depth 8)

pub returns-in-14-3 : goal.returns-in-14-3
unfolding bytes words of_length
returns-in-14-3 c = kind-by-length _ 14 _ c.in-14.is (search word_laws depth 8)

pub returns-in-16 : goal.returns-in-16
unfolding bytes words of_length
returns-in-16 c = kind-by-length _ 16 _ c.in-16.is (search word_laws depth 8)

pub returns-in-20 : goal.returns-in-20
unfolding bytes words of_length
returns-in-20 c = kind-by-length _ 20 _ c.in-20.is (search word_laws depth 8)

pub returns-in_default : goal.returns-in_default
unfolding bytes words of_length
returns-in_default c = kind-by-length _ 4 _ c.in-4.is (search word_laws depth 8)

pub returns-in_default-2 : goal.returns-in_default-2
unfolding bytes words of_length
returns-in_default-2 c = kind-by-length _ 6 _ c.in-6.is (search word_laws depth 8)

pub returns-in_default-3 : goal.returns-in_default-3
unfolding bytes words of_length
returns-in_default-3 c = kind-by-length _ 7 _ c.in-7.is (search word_laws depth 8)

pub returns-in_default-4 : goal.returns-in_default-4
unfolding bytes words of_length
returns-in_default-4 c = kind-by-length _ 8 _ c.in-8.is (search word_laws depth 8)

pub returns-in_default-5 : goal.returns-in_default-5
unfolding bytes words of_length
returns-in_default-5 c = kind-by-length _ 10 _ c.in-10.is (search word_laws depth 8)

pub returns-in_default-6 : goal.returns-in_default-6
unfolding bytes words of_length
returns-in_default-6 c = kind-by-length _ 12 _ c.in-12.is (search word_laws depth 8)

pub returns-in_default-7 : goal.returns-in_default-7
unfolding bytes words of_length
returns-in_default-7 c = kind-by-length _ 14 _ c.in-14.is (search word_laws depth 8)

pub returns-in_default-8 : goal.returns-in_default-8
unfolding bytes words of_length
returns-in_default-8 c = kind-by-length _ 16 _ c.in-16.is (search word_laws depth 8)

pub returns-in_default-9 : goal.returns-in_default-9
unfolding bytes words of_length
returns-in_default-9 c = kind-by-length _ 20 _ c.in-20.is (search word_laws depth 8)

pub returns-in_default-10 : goal.returns-in_default-10
returns-in_default-10 c = search kind-of-none
