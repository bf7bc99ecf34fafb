-- What taking the next phrase makes of the world and the pending line.
use Rattle.std.specs.Prelude.{◌≡◌}
use Rattle.paw_base.specs.declared.flags.TheConstants.{PRONOUN_NOUN_FLAG, PRONOUN_ADJECTIVE_FLAG}
use Rattle.paw_game.specs.Game.{GameLists}
use Rattle.paw_world.specs.World.{World, flag}
use Rattle.paw_phrase.specs.declared.Found.{Found}
use Rattle.paw_phrase.specs.declared.Found.TheVariants as found
use Rattle.paw_phrase.specs.declared.Sentence.{Sentence}
use Rattle.paw_phrase.specs.Pending.{PendingLine}
use Rattle.paw_phrase.specs.Sentence.{Parsed, IsSentence, IsUnknown, IsNoPhrase, phrase_parsed}
use Rattle.paw_reading.specs.Run.{with_sentence}

-- What the next phrase of a pending line is.
abbrev pub next_phrase : GameLists → World → PendingLine → Parsed
next_phrase g w p = phrase_parsed g p.bytes p.earlier (flag w PRONOUN_NOUN_FLAG) (flag w PRONOUN_ADJECTIVE_FLAG)

-- The next phrase is taken. A sentence is in the flags, its bytes are gone, and its verb is the earlier one from now
-- on; the bytes of a phrase with no known word are gone; where there is no phrase nothing changes.
abbrev pub Speaks : GameLists → Found → World → World → PendingLine → PendingLine → Type 0
Speaks g found.Sentence w w' old new =
    (s : Sentence) × (next_phrase g w old ≡ IsSentence s new.bytes) × (w' ≡ with_sentence s w) × (new.earlier ≡ s.verb)
Speaks g found.Nothing w w' old new =
    (next_phrase g w old ≡ IsUnknown new.bytes) × (w' ≡ w) × (new.earlier ≡ old.earlier)
Speaks g found.Empty w w' old new = (next_phrase g w old ≡ IsNoPhrase) × (w' ≡ w) × (new ≡ old)
