mod WordFacts
