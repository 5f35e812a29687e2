-- The calls' answers, refusal by refusal, as the rules have them. Assumes nothing.
use Prim.Native.Nat.{ℕ, ◌^◌, ◌≤◌, ◌<◌}
use mathlib.Core.Path.{◌≡◌, sym, ap, ◌∙◌}
use mathlib.Core.Bool.{Bool, false}
use mathlib.Core.List.{List}
use mathlib.Core.Logic.{⊎_elim}
use borrow.Author.Tests.{le-leb, lt-leb}
use Rattle.rules.specs.Outcome.{Outcome, accepted, refuse}
use Rattle.rules.specs.Sheet.{Sheet, read_sheet}
use Rattle.rules.specs.Hub.{Hub, sleeping, run, drain, start_all}
use Rattle.rules.specs.Rest.{Table}
use Rattle.rules.specs.Calls.{Ran, hub_answer, fitting, running, draining, on_sheet, run_call, drain_call}
use Rattle.sheet_laws.proofs.Accepted.{accepted_told}
use Rattle.sheet.specs.Answers.{Parsed, ParsedFrom}
use Rattle.sheet.proofs.SheetLaws.{sheet_accepted, sheet_refused}
use Rattle.lists.specs.Checks.{list_number, start_pairs}
use Rattle.lists.proofs.RuleLaws.{list_facts, starts_run}

-- a refusal's number, zeros, and the board as it was
abbrev pub told : ℕ → List ℕ → Ran
told n board = record { number = n; sent = 0; moved = 0; under_way = 0; finished = false; board = board }

module _ {s : List ℕ} {p : Parsed} (h : ParsedFrom s p) (board : List ℕ) where
  -- ---- the sheet

  refuses_sheet : (p.number ≡ 0 → ⊥) → (f : Sheet → Outcome Hub) → told p.number board ≡ on_sheet 16 board f (read_sheet 16 s)
  unfolding on_sheet hub_answer
  refuses_sheet z f = let (q, e) = sheet_refused h z in sym (ap (on_sheet 16 board f) e)

  pub run_sheet : (list : List ℕ) → (p.number ≡ 0 → ⊥) → told p.number board ≡ run_call s list board
  unfolding run_call
  run_sheet list z = refuses_sheet z (running 16 20 list board)

  pub drain_sheet : (starts budget : ℕ) → (p.number ≡ 0 → ⊥) → told p.number board ≡ drain_call s starts budget board
  unfolding drain_call
  drain_sheet starts budget z = refuses_sheet z (draining 16 20 starts budget board)

  module _ (good : p.number ≡ 0) where
    abbrev n : ℕ
    n = p.boxes

    abbrev t : List ℕ
    t = p.table

    abbrev sheet : Sheet
    sheet = record { boxes = n; links = p.links; table = t }

    read_is : read_sheet 16 s ≡ accepted sheet
    read_is = sheet_accepted h good

    pub table_is : Table 16 t
    table_is = (accepted_told 16 s sheet read_is).table_good

    on_sheet_lem : (f : Sheet → Outcome Hub) → on_sheet 16 board f (read_sheet 16 s) ≡ hub_answer 16 n board (f sheet)
    unfolding on_sheet
    on_sheet_lem f = ap (on_sheet 16 board f) read_is

    -- ---- run

    pub run_list : (list : List ℕ) → (list_number n t list ≡ 0 → ⊥) → told (list_number n t list) board ≡ run_call s list board
    unfolding run_call running hub_answer
    run_list list z =
        ⊎_elim (λ x. absurd (z x.0)) (λ x. sym (ap (hub_answer 16 n board) x.1.1)) (list_facts n t list (fitting 16 n board (run 16 20 t list (sleeping 16))))
        ∙ sym (on_sheet_lem (running 16 20 list board))

    pub run_does : (list : List ℕ) → list_number n t list ≡ 0
        → hub_answer 16 n board (fitting 16 n board (drain 16 20 t 0 (run 16 20 t list (sleeping 16)))) ≡ run_call s list board
    unfolding run_call running drain
    run_does list e =
        ⊎_elim (λ x. sym (ap (hub_answer 16 n board) x.1)) (λ x. absurd (x.0 e)) (list_facts n t list (fitting 16 n board (run 16 20 t list (sleeping 16))))
        ∙ sym (on_sheet_lem (running 16 20 list board))

    -- ---- drain

    pub drain_starts : (starts budget : ℕ) → 2 ^ n ≤ starts → told 10 board ≡ drain_call s starts budget board
    unfolding drain_call draining refuse hub_answer
    drain_starts starts budget l =
        sym (ap (λ (b : Bool). hub_answer 16 n board (refuse b 10 0 (fitting 16 n board (drain 16 20 t budget (start_all 16 20 t starts (sleeping 16)))))) (le-leb (2 ^ n) starts l))
        ∙ sym (on_sheet_lem (draining 16 20 starts budget board))

    pub drain_does : (starts budget : ℕ) → starts < 2 ^ n
        → hub_answer 16 n board (fitting 16 n board (drain 16 20 t budget (run 16 20 t (start_pairs 16 starts) (sleeping 16)))) ≡ drain_call s starts budget board
    unfolding drain_call draining refuse start_all
    drain_does starts budget l =
        ap (λ (g : Hub). hub_answer 16 n board (fitting 16 n board (drain 16 20 t budget g))) (starts_run 16 20 t starts 16 (sleeping 16))
        ∙ sym (ap (λ (b : Bool). hub_answer 16 n board (refuse b 10 0 (fitting 16 n board (drain 16 20 t budget (start_all 16 20 t starts (sleeping 16)))))) (lt-leb (2 ^ n) starts l))
        ∙ sym (on_sheet_lem (draining 16 20 starts budget board))
