-- The names of other modules that the proofs of this crate cite, passed on: a proof takes all that it cites of them by one
-- line.
pub use Rattle.std.proofs.{Math.Bool.and-true, Math.Path.fun_ext, Math.Seq.take-append_seam, lemmas.Fmt.length-decimal-le, lemmas.List.Elements.All-cons, lemmas.List.Elements.All-nil, lemmas.List.Elements.All-append, lemmas.List.Elements.All-map, lemmas.List.Elements.All-take, lemmas.List.Folds.concat-append, lemmas.Result.on_ok_weaker, lemmas.Slice.Eq.bytes_eq-Decides, lemmas.Str.Parse.IsNumeralModel, lemmas.Str.Parse.numerals_by_value, lemmas.Str.Parse.parse_digits}
pub use Rattle.std.proofs.Common.{◌≡◌, ◌≢◌, ◌+◌, ◌-◌, ◌≤◌, [], Some, refl, sym, ap, ◌∙◌, subst, arith, Ok, Err, append-nil, ℕ, ◌∷◌, Option, None, length, inl, inr, ◌<◌, ◌^◌, true, false, ltb, leb, cond, Result, ◌&&◌, ◌⊎◌, Bool, ◌*◌, List, ◌++◌, zero, suc, drop, take, ◌||◌, length-append, nat_le, append_assoc, map}
pub use Rattle.std.proofs.lemmas.Bool.{and_from, and_parts, le-leb, leb-true, lt-ltb, ltb-true, cases_lt}
pub use Rattle.std.proofs.lemmas.List.{take_all, length-take-le, get_or_past, take_at, take-append-drop, length-take, length-map, length-reverse, take_min, take-take, map-append, length-drop, drop_at}
pub use Rattle.std.specs.{Char.is_ascii_digit, List.list_all, List.concat, List.slice_index_or, Option.option_and_then, Option.option_map_or, Result.OkIff, Result.result_ok, Str.bytes_eq, Str.Parse.digits_value, Str.Parse.ParsesUnsigned}
pub use Rattle.std.specs.Prelude.{reverse, codes, decimal, if◌then◌else◌, MatchOption, IfOk, IfErr, IfSome, All, IfNone, flat_map, IsOk, OnOk, OnErr}
pub use Rattle.sha2.specs.{Sha256.sha256}
pub use Rattle.paw_base.proofs.{Table.plain_is}
pub use Rattle.paw_base.specs.{Condacts.CondactLine, Condacts.is_indirect, Condacts.no_line, Condacts.indirect_line, Condacts.name_of, declared.codes.TheConstants.INDIRECT, inner.Condacts.IsCode, inner.Piece.Puts, inner.Steps.KeptSteps, inner.Steps.kept_steps}
unfoldable pub use Rattle.paw_base.specs.{Condacts.is_plain_code, Condacts.condact_lines, Condacts.plain_line, Condacts.line_of}
pub use Rattle.paw_base.specs.Bytes.{Text, Name, Bytes, Line, Lines, Seed, Texts, ObjectPlaces, RoutineAnswers}
pub use Rattle.paw_base.specs.declared.limits.TheConstants.{EVENT_LIMIT, READ_LIMIT, PIECE_LIMIT, IMAGE_LIMIT, LINE_LIMIT, STEP_LIMIT}
pub use Rattle.paw_game.proofs.{ValidGames.first_of_and, ValidGames.second_of_and}
pub use Rattle.paw_game.specs.{Game.GameLists, Image.image, Valid.Valid, declared.parts.ObjectRow.ObjectRow}
pub use Rattle.paw_image.proofs.{ImageLaws.one_game, WholeLaws.over_is_bad}
pub use Rattle.paw_image.specs.{Damage.bad, Images.IsImage}
pub use Rattle.paw_stage.proofs.{Names.holds_same, Names.holds_other, Time.now_in_parts, Time.Passes_map, Time.Passes_on, Time.Passes_none}
pub use Rattle.paw_stage.specs.{Disk.MayLeave, Disk.IsStable, Disk.stable, Disk.MayStay, declared.Asked.Asked, declared.Failed.Failed, declared.Stage.Ghosts, declared.StageCall.StageCall, inner.Loads.LoadsSome, Moments.Passes}
pub use Rattle.paw_stage.specs.AcrossCalls.{EachMoment, InTwoParts, first_alone, both, IsOneOf, FailsOnlyBy}
pub use Rattle.paw_stage.specs.Stage.{Standing, Still, Files, bytes_or_none, made_if_missing, AttachesTo, file_bytes, Unattached, InAttach, AsksTo, InAsk, InShow, with_shown, ShowsTo, failed_in}
pub use Rattle.paw_world.specs.{World.World, World.Position, World.IsSavedFor, World.IsWorld}
pub use Rattle.paw_phrase.specs.{Pending.PendingLine}
pub use Rattle.paw_routines.specs.{Measure.measure, Routines.HaveAnswers, Routines.AreAnswersOf, declared.routines.Routines.Routines}
pub use Rattle.paw_effects.proofs.{Worlds.few_objects, Worlds.place_small}
pub use Rattle.paw_effects.specs.{Standing.AreBytes, Story.Story, Story.story_of, declared.act.Prompt.Prompt, inner.Standing.MayBePosition, inner.Standing.IsWorldOf, inner.Worlds.ArePlacesOf, inner.Worlds.StandsIn}
pub use Rattle.paw_reading.proofs.{Counts.pieces_of_lines, Ends.going_on_ends, Followed.going_on_is_reading, Past.past_stays, Past.longer_reading, Rightly.going_on_is_bounded, Rightly.readings_stop_rightly, Rightly.readings_are_bounded, Saving.readings_keep_no_position}
pub use Rattle.paw_reading.specs.{Bounds.IsLine, Bounds.ValidStory, GoingOn.on_path, Reading.Waits, Run.Run, Run.StepRow, Waits.waiting_code, declared.frames.Frame.Frame, declared.halt.Halt.Halt, inner.Bounds.IsBounded, inner.GoingOn.with_lines, inner.Longer.ending_with_past, inner.Longer.with_past, inner.Longer.without_past, inner.Pieces.Counted, inner.Saving.no_positions, inner.Saving.EndsKeeping, inner.Waits.StandsRightly, inner.Waits.StopsBounded, inner.Waits.AreOpenAt, inner.Waits.StopsRightly}
unfoldable pub use Rattle.paw_reading.specs.{Reading.prompt_asked, Turn.at_main}
pub use Rattle.paw_reading.specs.Turn.{text_of, Ending, WaitsAt, Halted, reading, going_on_from, pieces_of, Unended}
pub use Rattle.paw_process.proofs.{Again.path_again, Again.restored_kept, Fitting.frames_fit, Fitting.eleven_frames, Restored.stands_at}
pub use Rattle.paw_process.specs.{Kept.frames_at, declared.kept.Frames.Frames, inner.Kept.machine_kept, inner.Kept.machine_restored, inner.Kept.waiting_at, inner.Kept.WaitsAtPrompt, inner.OpenTables.OpenTables, inner.OpenTables.only_counting}
pub use Rattle.paw_state.proofs.{Lawful.bytes_give_the_state, Lawful.long_state, Ruled.each_of, Ruled.valid_of, Told.piece_told, Unkept.ends_in_zeros}
pub use Rattle.paw_state.specs.{Fit.Fit, declared.StateFault.StateFault, declared.parts.Restored.Restored, inner.Fit.IsRead, inner.Fit.state_read, inner.State.state_of}
pub use Rattle.paw_state.specs.State.{State, last_piece, IsValidState, FitsFields, state_bytes, state_at, HoldsBytes}
pub use Rattle.paw_turn.proofs.{Halting.plays_halted, Seating.restored_fits, Standing.stands_alike, Standing.valid_story, Standing.bytes_each}
pub use Rattle.paw_turn.specs.{declared.Step.Step, inner.Parts.prompt_step, inner.Parts.seat_at, inner.Parts.Fits, inner.Parts.IsPending}
pub use Rattle.paw_turn.specs.inner.Player.{PlayerView, run_at, PlaysTo, IsSeated, IsStanding, StandsClosed, StandRightly, prompt_at, run_with, PlayHalts, StandsAt, IsNew}
pub use Rattle.paw_journal.proofs.{Calls.writes_weaker, Disks.stable_is, Disks.stable_leaves, Failed.stays_now, Fills.slot_long, Moved.beside_none, Recovers.shown_made, Recovers.recover_is, Recovers.recover_made, ShownPieces.shown_long, ShownPieces.buffer_long, Slots.state_long}
pub use Rattle.paw_journal.proofs.Serving.{serves_done, serves_among, serves_then, in_front, serves_none, behind, serves_still, the_only_one}
pub use Rattle.paw_journal.specs.{Journal.writing_calls, declared.journal.Journal.Journal, declared.refusal.JournalRefusal.JournalRefusal, inner.Journal.KeptIn, inner.Journal.IsSessionRefused, inner.Journal.outside, inner.Room.Room, inner.Session.digests_of, inner.Session.session_shown, inner.Store.ChangesStoreOnly, inner.Store.InStore, inner.Store.CrashLeavesSuch, inner.Store.IsOldOrNew, inner.Store.IsUnmadeOr}
unfoldable pub use Rattle.paw_journal.specs.{Session.recover, Session.recover_by, Session.slot_shows}
pub use Rattle.paw_journal.specs.Session.{Digests, kept_digests, IsUnmade, Recovered, Shown, Damaged, slot_in_use, slot, shown_unless, first_unsound, slot_changes, slot_state, shown_state, two_byte_number, most_changes, state_length, first_length, zeros, form_length, slot_version, base_length, BelongsTo, made_session, session_committed, piece_length}
pub use Rattle.paw_play.specs.{Calls.walk_calls, Calls.play_calls, ImageFiles.Holds, ImageFiles.HoldsDamage, Numbers.number_of, Numbers.seed_of, Older.KeepsAsOlder, Older.OlderSessionsStand, Session.IsKept, Session.story_digests, Session.IsOfStory, Session.state_after, Stands.Stands, Stands.since_piece, Stands.ending_since, Stands.reading_since, Stands.IsPlayedWith, Written.bytes_before, Written.base_after, Written.store_bytes_after, declared.PlayEnd.PlayEnd, declared.open.OpenSession.OpenSession, inner.Calls.call_of_end, inner.Calls.end_failed_or, inner.Calls.DoneWithMoments, inner.Calls.failed_so_far}
unfoldable pub use Rattle.paw_play.specs.{Session.kept_bytes}
pub use Rattle.paw_play.specs.Keeping.{InPlay, InMaking, InNewSession, KeptBy, AgreesWith, IsUpToDateWith, StaysAttached, RestsWith, KeepsAllButLast}
pub use Rattle.paw_play.specs.Laws.{MayBeLeft, StandsAtMoment, RoundStop, cut_at, came_to, Round, BeginsOver, FailsAtMoment, StopsWith, AreRounds, left_after, AreKept, AreKeptOf, RoundsStand, StandingShows, StandingGoesOn, KeptLinesStand, GoingOnIsTheReading}
pub use Rattle.paw_play.specs.Play.{attached_to, store_bytes, PlaysAgain, refused, unread, resumes_play, no_state, plays_on, PlaysOn, MadeAndPlayed, halts, unmade, NotYet, with_store, NewSession, GoesOn, memory, plays, unattached, occupied, starts_play, Refuses, Resumed, without_memory, Uncommitted}
pub use Rattle.paw_play.specs.Played.{PlayedSession, GoesOnFrom, ShowsState, going_on, from_state, session_begun, from_lines, from_shown, from_played, resumed_run}
pub use Rattle.paw_play.specs.Traces.{step_address, answer_text, step_line, more_line, steps_text, traced_pieces}
pub use Rattle.paw_play.specs.Walk.{EndingOf, end_halt, first_lines, text_for, text_before, with_lines_taken, WalkWaits, WalkHalts, PartShown, Walks, TakesLines}
pub use Rattle.paw_play.specs.inner.OnTheWay.{IsPlaying, IsRestingStore, end_of_halt, seat_state, end_if_no_piece, CommitsPlayer, InCommit, MakesPlayer, InMake, PlaysLineTo, ShowsOpen, end_of, IsWalking, ShowsStep, WalksTo}
pub use Rattle.paw_play.specs.inner.Open.{IsOpen, ResumesTo, BeginsTo, InBeginning, HasPlayed, StopsAtState, seat_base, ReadsOn, WaitsAfter, HaltsAfter, HoldsPlayer, KeepsAfter, StopsAt, TakesLineTo, InTaking, StopsAtOnce, PlaysFirst, HoldsSession, bytes_with_commit, MayTake, StaysSeated}
pub use Rattle.paw_play.specs.inner.ShowSteps.{Plain, ShowSteps, Stepped, kept_text, seat_text, HaveSteps, NotesShown, shown_pieces, shown_run, shown_ending, with_shown_steps, preface}
