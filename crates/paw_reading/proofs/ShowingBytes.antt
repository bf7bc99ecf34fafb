-- What a reading shows has only bytes of the game's texts, of numbers and of marks.
use Rattle.std.proofs.Common.{[], ◌∷◌, ◌++◌, refl}
use Rattle.std.specs.List.{concat}
use Rattle.paw_base.specs.Bytes.{Text, Texts, Seed}
use Rattle.paw_game.proofs.Right.{right_at}
use Rattle.paw_effects.specs.Story.{Story}
use Rattle.paw_effects.specs.Effects.{effect_of}
use Rattle.paw_reading.specs.Bounds.{ValidStory}
use Rattle.paw_reading.specs.Run.{Run}
use Rattle.paw_reading.specs.Turn.{AtDescribe, Ending, WaitsAt, Halted, Unended, phases_left, opening, reading, text_of}
use Rattle.paw_reading.specs.inner.Always.{EndsIn, ReadingsShowOwnBytes}
use Rattle.paw_reading.proofs.Kept.{IsKept, turn_kept}
use Rattle.paw_reading.proofs.PrintedBytes.{Only, AllOnly, both, said, effect_only}
use Rattle.paw_reading.proofs.Sounding.{IsSound, are_lines, sound_kept, opening_so}

module _ (g : Story) (valid : ValidStory g) (seed : Seed) where
  -- What a sound run has shown.
  record Showing (r : Run) : Type 0 where
    sound : IsSound g.game seed 0 r
    current : Only g.game r.current
    pieces : AllOnly g.game r.pieces

  one_more : (texts : Texts) (text : Text) → AllOnly g.game texts → Only g.game text → AllOnly g.game (texts ++ text ∷ [])
  one_more [] text h k = (k, tt)
  one_more (x ∷ texts) text h k = (h.0, one_more texts text h.1 k)

  abbrev sounds : IsKept g (IsSound g.game seed 0)
  sounds = sound_kept g valid seed 0

  showing_kept : IsKept g Showing
  showing_kept = record {
    printed = λ r text k is fit. record {
      sound = sounds.printed r text k.sound is fit;
      current = both g.game r.current text k.current (said g.game text is);
      pieces = k.pieces;
    };
    tested = λ f c b r stands k few. record { sound = sounds.tested f c b r stands k.sound few; current = k.current; pieces = k.pieces };
    noted = λ f c r k few. record { sound = sounds.noted f c r k.sound few; current = k.current; pieces = k.pieces };
    acts = λ f c r stands k few fit. record {
      sound = sounds.acts f c r stands k.sound few fit;
      current = both g.game r.current (effect_of g r.world c).text k.current
          (effect_only g valid.game r.world c k.sound.world.flags (right_at g.game valid.game f.table f.entry f.at c stands));
      pieces = k.pieces;
    };
    sentence = λ r s left k is. record { sound = sounds.sentence r s left k.sound is; current = k.current; pieces = k.pieces };
    unknown = λ r left k is. record { sound = sounds.unknown r left k.sound is; current = k.current; pieces = k.pieces };
    dropped = λ r k. record { sound = sounds.dropped r k.sound; current = k.current; pieces = k.pieces };
    closed = λ r k. record { sound = sounds.closed r k.sound; current = refl; pieces = one_more r.pieces r.current k.pieces k.current };
    next = λ r line lines k. record { sound = sounds.next r line lines k.sound; current = k.current; pieces = k.pieces };
    heard = λ line r k. record { sound = sounds.heard line r k.sound; current = k.current; pieces = k.pieces };
    set = λ r line lines k. record { sound = sounds.set r line lines k.sound; current = k.current; pieces = k.pieces };
    taken = λ l o r few k. record { sound = sounds.taken l o r few k.sound; current = k.current; pieces = k.pieces };
    no_loop = λ r k. record { sound = sounds.no_loop r k.sound; current = k.current; pieces = k.pieces };
    described = λ r k. record { sound = sounds.described r k.sound; current = k.current; pieces = k.pieces };
    passed = λ r k. record { sound = sounds.passed r k.sound; current = k.current; pieces = k.pieces };
    went = λ r to k is. record { sound = sounds.went r to k.sound is; current = k.current; pieces = k.pieces };
    counted = λ r k. record { sound = sounds.counted r k.sound; current = k.current; pieces = k.pieces };
    anew = λ r k. record { sound = sounds.anew r k.sound; current = k.current; pieces = k.pieces };
  }

  joined : (texts : Texts) → AllOnly g.game texts → Only g.game (concat texts)
  joined [] h = refl
  joined (text ∷ texts) h = both g.game text (concat texts) h.0 (joined texts h.1)

  shown : (e : Ending) → EndsIn Showing e → Only g.game (text_of e)
  shown (WaitsAt p path r) k = joined r.pieces k.pieces
  shown (Halted halt r) k = joined r.pieces k.pieces
  shown Unended k = refl

pub readings_show_own_bytes : ReadingsShowOwnBytes
readings_show_own_bytes g seed es valid lines =
    shown g valid seed (reading g seed es)
    (turn_kept g (Showing g valid seed) (showing_kept g valid seed) (phases_left (opening g seed es)) AtDescribe (opening g seed es)
    (record { sound = opening_so g valid seed 0 es (are_lines es lines); current = refl; pieces = tt }))
