use Rattle.std.proofs.Common.{Some, ◌∙◌, ap, sym, refl, append-nil, length}
use Rattle.unit_grammar.specs.Kinds.{skipped, header, no_equals, assigns}
use Rattle.unit_grammar.specs.Reading.{overfull, unplaced, under}
use Rattle.unit_grammar.proofs.Steps.{reads_more, takes_note, takes_assignment}
use Rattle.unit_grammar.proofs.reader.Reader.take.Goals as goal

pub returns-in-Skipped-clause-taken : goal.returns-in-Skipped-clause-taken
returns-in-Skipped-clause-taken c = λ lines h.
    reads_more lines _ skipped _ _ _ _ _ _ h c.in-Skipped.ensures.its_kind refl refl (sym (append-nil _)) (sym (append-nil _))

pub returns-in_ok-new-in-Header-clause-taken : goal.returns-in_ok-new-in-Header-clause-taken
returns-in_ok-new-in-Header-clause-taken c = λ lines h.
    reads_more lines _ (header c.in-Header.section.now) _ _ _ _ _ _ h c.in-Header.ensures.its_kind refl (ap Some c.in_ok-new-in-Header.ensures.same_text) (sym (append-nil _)) (sym (append-nil _))

pub returns-in-NoEquals-clause-taken : goal.returns-in-NoEquals-clause-taken
returns-in-NoEquals-clause-taken c = λ lines h.
    takes_note lines _ no_equals _ _ _ _ _ _ _ _ h c.in-NoEquals.ensures.its_kind refl refl refl refl c.add_note.ensures refl refl

pub returns-in-Some-clause-taken : goal.returns-in-Some-clause-taken
returns-in-Some-clause-taken c = λ lines h.
    takes_assignment lines _ c.as_str.result.now c.in-Assigns.key.now c.in-Assigns.value.now _ _ _ _ _ _ _ h
    (c.in-Some.is ∙ ap Some (sym c.as_str.ensures.same_text)) c.in-Assigns.ensures.its_kind c.add_assignment.ensures refl refl

pub returns-in-None-clause-taken : goal.returns-in-None-clause-taken
returns-in-None-clause-taken c = λ lines h.
    let number = c.args.number in
    let kind = assigns c.in-Assigns.key.now c.in-Assigns.value.now in
    takes_note lines _ kind _ _ _ _ _ _ _ _ h c.in-Assigns.ensures.its_kind refl
    (ap (λ o. overfull o (length c.args.self.now.assignments)) c.in-None.is) (ap (λ o. unplaced o number) c.in-None.is)
    (ap (λ o. under o number c.in-Assigns.key.now c.in-Assigns.value.now) c.in-None.is)
    c.add_note-in-None.ensures refl refl
