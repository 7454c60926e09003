mod BoxLaws
