use Rattle.std.proofs.Common.{rules}
use Rattle.std.proofs.lemmas.Result.{on_ok_weaker}
use Rattle.std.proofs.lemmas.List.Sorted.{answers_always}
use Rattle.exec_settings.specs.Order.{place_of}
use Rattle.exec_settings.proofs.notes.put_in_order.Goals as goal

pub returns-clause-by_files_and_lines : goal.returns-clause-by_files_and_lines
returns-clause-by_files_and_lines c = on_ok_weaker c.sort_by_key.result
    (λ h. h place_of (answers_always _ _ _ (λ f a r g h. search rules))) c.sort_by_key.ensures.sorted

pub returns-clause-as_they_stood : goal.returns-clause-as_they_stood
returns-clause-as_they_stood c = c.sort_by_key.ensures.stable place_of (answers_always _ _ _ (λ f a r g h. search rules))
