-- Document 01, section Checked examples: one table, and the one statement that every row of it holds. All lines marked P are in it, each under the
-- paper's words, those of the watch at depth 15; so are those that are not, which are run besides, and at the end rows of our own, by its rules and
-- by document 02.
use Rattle.std.specs.Prelude.{◌≡◌, List, [], ◌∷◌, ◌++◌, pos}
use Rattle.refusal.specs.declared.Reason.TheVariants.{Alone, At}
use Rattle.refusal.specs.Told.{refused, gives}
use Rattle.readings_rules.specs.Hundredths.{level_of, quality_of}
use Rattle.choice_rules.specs.Choose.{camp, read, no_beam, choosing}
use Rattle.watch_rules.specs.Told.{start, new_beam, ask, verdict, levels, wait, stay, move_to}
use Rattle.power_rules.specs.declared.Decoded.TheVariants.{Failed, Codes}
use Rattle.power_rules.specs.Calls.{stepped}
use Rattle.examples.specs.Given.{minus, single, nothing_heard, three_heard, nothing_read, three_read, answer_after, serving, two_levels, two_channels, first_and_more, parameters, unequal_gains, at_start, par_of, pans_sent}

-- a row: what the definitions give, and what the paper says
infixl 70 ◌comes_to◌
pub data Row : Type 1 where
  ◌comes_to◌ : {A : Type 0} → A → A → Row

abbrev pub table : List Row
table =
    -- "P level -100.125 gives -10,013."
    level_of (single 0xc2c8_4000) comes_to gives (minus 10013)
    -- "P quality 0.125 gives 12."
    ∷ quality_of (single 0x3e00_0000) comes_to gives (pos 12)
    -- "P 0.375 gives 37."
    ∷ quality_of (single 0x3ec0_0000) comes_to gives (pos 37)
    -- "P level -150 gives -15,000."
    ∷ level_of (single 0xc316_0000) comes_to gives (minus 15000)
    -- "The next single float below -150 and NaN: refusal 1."
    ∷ level_of (single 0xc316_0001) comes_to refused (Alone 1)
    ∷ level_of (single 0x7fc0_0000) comes_to refused (Alone 1)
    -- "P margin 300, nothing read: read 100, tried 1."
    ∷ choosing three_heard (pos 300) nothing_read comes_to gives (read 100 1)
    -- "P 100 barred, 200 other network, 300 suitable: camp 300, tried 3."
    ∷ choosing three_heard (pos 300) three_read comes_to gives (camp 300 3)
    -- "P the same at margin 299: no beam, tried 2."
    ∷ choosing three_heard (pos 299) three_read comes_to gives (no_beam 2)
    -- "P nothing heard: no beam, tried 0."
    ∷ choosing nothing_heard (pos 300) nothing_read comes_to gives (no_beam 0)
    -- "P Two levels -1 and -2: mean -2."
    ∷ answer_after two_levels (ask 100) comes_to gives (levels 2 (minus 2))
    -- "P Serving 15 times -10,000, a neighbour 15 times -9,700: hysteresis 300 stay, 299 move."
    ∷ answer_after (two_channels 15 15) (verdict (pos 300)) comes_to gives stay
    ∷ answer_after (two_channels 15 15) (verdict (pos 299)) comes_to gives (move_to 200)
    -- "With 14 levels in the serving channel: wait."
    ∷ answer_after (two_channels 15 14) (verdict (pos 299)) comes_to gives wait
    -- "P SQT 85, both gains 10, PANuse 20: SQI 750 gives PAR 17, P 950 gives 22."
    ∷ par_of (stepped parameters at_start (Codes 20 63) (pos 750)).answer comes_to gives (pos 17)
    ∷ par_of (stepped parameters at_start (Codes 20 63) (pos 950)).answer comes_to gives (pos 22)
    -- "P PANinit 30, limits 0 and 60, Mestep 3; PAR 20, 40, 40, failed, failed: PAN sent 20, 20, 40, 38, 37."
    ∷ pans_sent at_start (Codes 63 20 ∷ Codes 63 40 ∷ Codes 63 40 ∷ Failed ∷ Failed ∷ [])
    comes_to (gives (pos 20) ∷ gives (pos 20) ∷ gives (pos 40) ∷ gives (pos 38) ∷ gives (pos 37) ∷ [])
    -- our own, by the paper's rules. A failed message leaves PANbasic, the lesser of 40 and 20: PAR 20, 40, failed: PAN sent 20, 20, 18
    ∷ pans_sent at_start (Codes 63 20 ∷ Codes 63 40 ∷ Failed ∷ []) comes_to (gives (pos 20) ∷ gives (pos 20) ∷ gives (pos 18) ∷ [])
    -- GainDn where the quality is above SQT: GainUp 31, GainDn 10, SQT 85, PANuse 20: SQI 950 gives PAR 22
    ∷ par_of (stepped unequal_gains at_start (Codes 20 63) (pos 950)).answer comes_to gives (pos 22)
    -- a decoded PAR that is not numeric ends the increase: PANinit 30, failed, PAR 63: PAN sent 28, 30
    ∷ pans_sent at_start (Failed ∷ Codes 63 63 ∷ []) comes_to (gives (pos 28) ∷ gives (pos 30) ∷ [])
    -- document 02, E8. At depth 5 the verdict comes with the fifth level, and the margin is 5 times the hysteresis
    ∷ answer_after (two_channels 5 4) (verdict (pos 299)) comes_to gives wait
    ∷ answer_after (two_channels 5 5) (verdict (pos 299)) comes_to gives (move_to 200)
    ∷ answer_after (two_channels 5 5) (verdict (pos 300)) comes_to gives stay
    -- at depth 31 a 32nd level pushes out the first
    ∷ answer_after (first_and_more 30) (ask 100) comes_to gives (levels 31 (minus 97))
    ∷ answer_after (first_and_more 31) (ask 100) comes_to gives (levels 31 (minus 100))
    -- a depth outside 5 to 31 is refused with 7, before a channel above 1,087 with 2
    ∷ answer_after [] (start 1088 4) comes_to refused (Alone 7)
    ∷ answer_after [] (start 1088 32) comes_to refused (Alone 7)
    ∷ answer_after [] (start 1088 31) comes_to refused (Alone 2)
    -- document 02, E2, in a new beam with 100 as it serves. A list of seven is refused with 11, whatever stands in it
    ∷ answer_after serving (new_beam 100 (1088 ∷ 100 ∷ 200 ∷ 200 ∷ 300 ∷ 400 ∷ 500 ∷ [])) comes_to refused (Alone 11)
    -- else the first faulty place is told: a channel above 1,087, the serving channel, a repeat at its second place
    ∷ answer_after serving (new_beam 100 (200 ∷ 1088 ∷ 100 ∷ [])) comes_to refused (At 12 1)
    ∷ answer_after serving (new_beam 100 (200 ∷ 100 ∷ 1088 ∷ [])) comes_to refused (At 14 1)
    ∷ answer_after serving (new_beam 100 (200 ∷ 300 ∷ 200 ∷ 100 ∷ [])) comes_to refused (At 13 2)
    -- document 02, E10. The list is judged against the new serving channel, not the old one, and on an idle watch too; then 6
    ∷ answer_after serving (new_beam 200 (100 ∷ 200 ∷ [])) comes_to refused (At 14 1)
    ∷ answer_after [] (new_beam 200 (200 ∷ [])) comes_to refused (At 14 0)
    ∷ answer_after [] (new_beam 200 (100 ∷ [])) comes_to refused (Alone 6)
    -- a serving channel above 1,087 comes before all that
    ∷ answer_after [] (new_beam 1088 (1088 ∷ [])) comes_to refused (Alone 2)
    -- a neighbour that becomes serving, with the old serving channel in its list: both keep their levels
    ∷ answer_after (two_channels 5 5 ++ new_beam 200 (100 ∷ []) ∷ []) (ask 100) comes_to gives (levels 5 (minus 10000))
    ∷ answer_after (two_channels 5 5 ++ new_beam 200 (100 ∷ []) ∷ []) (ask 200) comes_to gives (levels 5 (minus 9700))
    -- a stranger serves, without levels; what it dropped comes back without them
    ∷ answer_after (two_levels ++ new_beam 300 [] ∷ []) (ask 300) comes_to gives (levels 0 (pos 0))
    ∷ answer_after (two_levels ++ new_beam 300 [] ∷ new_beam 100 [] ∷ []) (ask 100) comes_to gives (levels 0 (pos 0))
    ∷ []

-- both sides of a row are the same
abbrev pub Holds : Row → Type 0
Holds (a comes_to b) = a ≡ b

-- every row holds
abbrev pub AllHold : List Row → Type 0
AllHold [] = Unit {0}
AllHold (r ∷ rs) = Holds r × AllHold rs
