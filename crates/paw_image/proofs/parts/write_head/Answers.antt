use Rattle.std.proofs.Common.{◌≡◌, [], ◌∷◌, length, ap, ◌∙◌}
use Rattle.std.specs.Prelude.{codes}
use Rattle.paw_game.specs.Image.{two_bytes, version_of}
use Rattle.paw_image.proofs.ListLaws.{grows, grows_last}
use Rattle.paw_image.proofs.parts.write_head.Goals as goal

pub returns : goal.returns
returns c =
    let g = c.args.parts.now in
    let is = c.parts.view_is in
    let inside = c.parts.inside in
    let words : c.len.result ≡ length g.words = c.len.ensures ∙ inside.words.ok.0 ∙ ap (λ l. length l.words) is in
    let system : c.len-2.result ≡ length g.system = c.len-2.ensures ∙ inside.system.ok.0 ∙ ap (λ l. length l.system) is in
    let messages : c.len-3.result ≡ length g.messages =
    c.len-3.ensures ∙ inside.messages.ok.0 ∙ ap (λ l. length l.messages) is in
    let objects : c.len-4.result ≡ length g.objects =
    c.len-4.ensures ∙ inside.objects.ok.0 ∙ ap (λ l. length l.objects) is in
    let locations : c.len-5.result ≡ length g.locations =
    c.len-5.ensures ∙ inside.locations.ok.0 ∙ ap (λ l. length l.locations) is in
    let tables : c.len-6.result ≡ length g.tables = c.len-6.ensures ∙ inside.tables.ok.0 ∙ ap (λ l. length l.tables) is in
    let version : c.byte.result ≡ version_of g = c.byte.ensures.value ∙ c.version_of.ensures.value in
    let before = c.args.out.now.items in
    let to_version = grows before (codes "PAWI") (version_of g ∷ []) c.in_ok-extend_from_slice.ensures.items
    c.in_ok-push.ensures.items (ap (λ b. b ∷ []) version) in
    let to_words = grows before _ _ to_version c.in_ok-write_number.ensures.writes (ap two_bytes words) in
    let to_system = grows before _ _ to_words c.in_ok-write_number-2.ensures.writes (ap two_bytes system) in
    let to_messages = grows before _ _ to_system c.in_ok-write_number-3.ensures.writes (ap two_bytes messages) in
    let to_objects = grows before _ _ to_messages c.in_ok-write_number-4.ensures.writes (ap two_bytes objects) in
    let to_locations = grows before _ _ to_objects c.in_ok-write_number-5.ensures.writes (ap two_bytes locations) in
    record {
      writes = grows_last c.write_number-6.result before _ _ _ to_locations c.write_number-6.ensures.writes
          (ap two_bytes tables);
    }
