use Rattle.std.proofs.Common.{◌≡◌, ◌-◌, []}
use Rattle.paw_image.specs.Damage.{words_above}
use Rattle.paw_image.specs.inner.Words.{last_letters}
use Rattle.paw_image.proofs.ListLoop.{with_front}
use Rattle.paw_image.proofs.words.read_words.Given as goal

abbrev pub invariant-loop : goal.invariant-loop
invariant-loop l = with_front l.words.items (words_above (last_letters l.words.items) (l.count - l.counter) l.rest) ≡ words_above [] l.count l.bytes
