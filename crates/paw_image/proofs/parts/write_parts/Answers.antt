use Rattle.std.proofs.Common.{ap, ◌∙◌}
use Rattle.std.specs.List.{flat_map}
use Rattle.paw_game.specs.Image.{word_image, text_image, object_image, exits_image, table_image}
use Rattle.paw_image.proofs.ListLaws.{grows, grows_last}
use Rattle.paw_image.proofs.parts.write_parts.Goals as goal

pub returns : goal.returns
returns c =
    let is = c.parts.view_is in
    let words = ap (flat_map word_image) (c.deref.ensures.value ∙ ap (λ l. l.words) is) in
    let system = ap (flat_map text_image) (c.deref-2.ensures.value ∙ ap (λ l. l.system) is) in
    let messages = ap (flat_map text_image) (c.deref-3.ensures.value ∙ ap (λ l. l.messages) is) in
    let objects = ap (flat_map object_image) (c.deref-4.ensures.value ∙ ap (λ l. l.objects) is) in
    let locations = ap (flat_map text_image) (c.deref-5.ensures.value ∙ ap (λ l. l.locations) is) in
    let exits = ap (flat_map exits_image) (c.deref-6.ensures.value ∙ ap (λ l. l.exits) is) in
    let tables = ap (flat_map table_image) (c.deref-7.ensures.value ∙ ap (λ l. l.tables) is) in
    let before = c.args.out.now.items in
    let to_words = grows before _ _ c.in_ok-write_head.ensures.writes c.in_ok-write_rows.ensures.writes words in
    let to_system = grows before _ _ to_words c.in_ok-write_rows-2.ensures.writes system in
    let to_messages = grows before _ _ to_system c.in_ok-write_rows-3.ensures.writes messages in
    let to_objects = grows before _ _ to_messages c.in_ok-write_rows-4.ensures.writes objects in
    let to_locations = grows before _ _ to_objects c.in_ok-write_rows-5.ensures.writes locations in
    let to_exits = grows before _ _ to_locations c.in_ok-write_rows-6.ensures.writes exits in
    record { writes = grows_last c.write_rows-7.result before _ _ _ to_exits c.write_rows-7.ensures.writes tables }
