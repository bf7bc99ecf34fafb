use Rattle.std.proofs.Common.{◌≡◌, ◌++◌, length}
use Rattle.std.specs.Vec.Iter.{into_iter_items, into_iter_len}
use Rattle.paw_grammar.specs.GrammarState.{objects_of}
use Rattle.paw_source.proofs.objects.objects_of.Given as goal

abbrev pub invariant-loop-text : goal.invariant-loop-text
invariant-loop-text l =
    (goal.iterator-loop-text).can_next l.text-iterator
    × (goal.iterator-loop-text).is_finite l.text-iterator
    × (into_iter_len l.text-iterator ≡ length (into_iter_items l.text-iterator))
    × (l.objects.items ++ objects_of (into_iter_items l.text-iterator) l.rest ≡ objects_of l.fn.texts.items l.fn.facts)
